use Rattle.std.proofs.{Common.{◌<◌, ◌+◌, ◌∷◌, sym, subst, get_or, drop, length, arith}, lemmas.List.{drop_more, drop_all}}
use Rattle.std.proofs.lemmas.List.Sorted.{IsNonDecreasingBy-drop}
use Rattle.rm_plan.specs.{Spans.{IsFirstOutside, IsAscending}, declared.span.Span.{Span}}
use Rattle.rm_plan.proofs.Spans.{outside_front, outside_none, outside_step}
use Rattle.rm_plan.proofs.span.first_outside.Goals as goal

abbrev blank : Span
blank = record { start = 0; end = 0 }

pub loop-span-preserved : goal.loop-span-preserved
loop-span-preserved c = λ r is.
    let spans = c.args.spans.now in
    let k = c.loop-span.span-index in
    let x = get_or spans k blank in
    let inside : k < length spans = omega (arith, c.loop-span-test.true) in
    let now = subst (λ m. IsFirstOutside (drop (k + 1) spans) m r) c.max-at.ensures is in
    c.loop-span.invariant r (subst (λ xs. IsFirstOutside xs c.loop-span.at r) (sym (drop_more spans k blank inside)) (outside_step x (drop (k + 1) spans) c.loop-span.at r c.if-at-span.false now))

pub returns-then-at-span : goal.returns-then-at-span
returns-then-at-span c =
    let spans = c.args.spans.now in
    let k = c.loop-span.span-index in
    let inside : k < length spans = omega (arith, c.loop-span-test.true) in
    let step = drop_more spans k blank inside in
    let order : IsAscending (get_or spans k blank ∷ drop (k + 1) spans) = subst IsAscending step (IsNonDecreasingBy-drop (λ x. x.start) k spans c.requires.ascending) in
    c.loop-span.invariant c.loop-span.at (subst (λ xs. IsFirstOutside xs c.loop-span.at c.loop-span.at) (sym step) (outside_front (get_or spans k blank) (drop (k + 1) spans) c.loop-span.at order c.if-at-span.true))

pub returns : goal.returns
returns c =
    let spans = c.args.spans.now in
    let k = c.loop-span.span-index in
    let none = drop_all k spans (omega (arith, c.loop-span-test.false)) in
    c.loop-span.invariant c.loop-span.at (subst (λ xs. IsFirstOutside xs c.loop-span.at c.loop-span.at) (sym none) (outside_none c.loop-span.at))
