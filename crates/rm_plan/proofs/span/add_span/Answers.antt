use Rattle.std.proofs.Common.{◌++◌, ◌∷◌, [], List, sym, subst, arith}
use Rattle.rm_plan.specs.{Spans.{AreApart, IsAscending}, declared.span.Span.{Span}}
use Rattle.rm_plan.proofs.Spans.{apart_last, apart_more, ascend_last, ascend_more}
use Rattle.rm_plan.proofs.span.add_span.Goals as goal

pub returns-then-span-last-clause-ascending : goal.returns-then-span-last-clause-ascending
returns-then-span-last-clause-ascending c = λ order. ascend_last c.args.out.now.items c.args.last (record { start = c.args.last.start; end = c.max.result }) order (omega arith)

pub returns-clause-ascending : goal.returns-clause-ascending
returns-clause-ascending c = λ order. subst (λ (xs : List Span). IsAscending (xs ++ c.args.span ∷ [])) (sym c.in_ok-push.ensures.items) (ascend_more c.args.out.now.items c.args.last c.args.span order c.requires.above)

pub returns-then-span-last-clause-apart : goal.returns-then-span-last-clause-apart
returns-then-span-last-clause-apart c = λ apart. apart_last c.args.out.now.items c.args.last (record { start = c.args.last.start; end = c.max.result }) apart (omega arith)

pub returns-clause-apart : goal.returns-clause-apart
returns-clause-apart c = λ apart. subst (λ (xs : List Span). AreApart (xs ++ c.args.span ∷ [])) (sym c.in_ok-push.ensures.items) (apart_more c.args.out.now.items c.args.last c.args.span apart c.requires.above c.if-span-last.false)
