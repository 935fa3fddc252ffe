use Rattle.std.proofs.{Common.{nat_le, rules, arith}, lemmas.List.Sorted.{IsPartitionPoint-from_clause, IsPartitionedBy-leb}}
use Rattle.rm_plan.{specs.declared.span.Span.{Span}, proofs.Spans.{outside_apart, outside_before}}
use Rattle.rm_plan.proofs.span.first_outside_apart.Goals as goal
use Rattle.rm_base.proofs.Tests.{gt_from, le_from}

abbrev blank : Span
blank = record { start = 0; end = 0 }

pub returns-then-count-eq0 : goal.returns-then-count-eq0
returns-then-count-eq0 c =
    let spans = c.args.spans.now in
    let point = IsPartitionPoint-from_clause (λ (p : Span). nat_le p.start c.args.low) _ _ c.partition_point-count.ensures.partitioned (IsPartitionedBy-leb (λ (p : Span). p.start) spans c.args.low c.requires.ascending) (λ a r q k. search rules) in
    outside_before spans c.args.low blank (λ k inside. gt_from _ _ (point.1 k blank (omega (arith, c.if-count-eq0.true)) inside))

pub returns : goal.returns
returns c =
    let spans = c.args.spans.now in
    let point = IsPartitionPoint-from_clause (λ (p : Span). nat_le p.start c.args.low) _ _ c.partition_point-count.ensures.partitioned (IsPartitionedBy-leb (λ (p : Span). p.start) spans c.args.low c.requires.ascending) (λ a r q k. search rules) in
    outside_apart spans c.args.low c.partition_point-count.result c.max.result blank c.requires.ascending c.requires.apart c.partition_point-count.ensures.bound
    (λ k inside. le_from _ _ (point.0 k blank (omega arith) inside))
    (λ k past inside. gt_from _ _ (point.1 k blank past inside))
    (omega (arith, c.if-count-eq0.false)) c.max.ensures
