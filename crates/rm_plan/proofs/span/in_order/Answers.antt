use Rattle.std.proofs.{Common.{rules, sym}, lemmas.List.Sorted.{IsNonDecreasingBy-from_sort_by_key, list_any-IsPermutation}}
use Rattle.rm_plan.specs.{Spans.{lies_in}, declared.span.Span.{Span}}
use Rattle.rm_plan.proofs.span.in_order.Goals as goal

pub returns-clause-same : goal.returns-clause-same
returns-clause-same c = λ g. sym (list_any-IsPermutation (lies_in g) c.args.spans.items c.sort_unstable_by_key.new.self.items c.sort_unstable_by_key.ensures.permutation)

pub returns-clause-ascending : goal.returns-clause-ascending
returns-clause-ascending c = IsNonDecreasingBy-from_sort_by_key (λ (x : Span). x.start) _ c.sort_unstable_by_key.ensures.sorted (λ a r q k. search rules)
