use Rattle.std.proofs.Common.{◌≡◌, ◌∙◌, [], rules, sym, arith, inl, refl}
use Rattle.rm_control.proofs.Going.{below_place, on_none}
use Rattle.rm_control.proofs.differences.step.Goals as goal

pub returns-in_err-put-clause-none : goal.returns-in_err-put-clause-none
returns-in_err-put-clause-none c =
    let none : c.args.wanted.now.items ≡ [] = search rules in
    let high : c.top-high.result ≡ 0 = c.top-high.ensures.none (c.deref.ensures.value ∙ none) in
    let under = c.if-high-low.false in
    let low : c.top-low.result ≡ 0 = omega (arith, high, under) in
    let both : (c.args.wanted.now.items ≡ []) × (c.args.present.now.items ≡ []) = (none, sym c.deref-2.ensures.value ∙ c.top-low.ensures.empty low) in
    on_none _ both

pub returns-then-low-high-clause-step : goal.returns-then-low-high-clause-step
returns-then-low-high-clause-step c =
    let taken = c.in_ok-put.ensures.items in
    let high = c.top-high.ensures.last c.pop-2.new.self.items c.in_ok-put.put (c.deref.ensures.value ∙ taken) in
    (taken, inl (refl, below_place c.args.present.now.items c.deref-2.result.now c.top-low.result c.top-high.result c.in_ok-put.put c.deref-2.ensures.value c.top-low.ensures.below c.if-low-high.true high))
