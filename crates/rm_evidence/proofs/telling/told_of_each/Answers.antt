use Rattle.std.specs.{Prelude.{IfOk, Result}, Vec.Iter.{into_iter_items}}
use Rattle.std.proofs.Common.{◌≡◌, ◌∙◌, ◌+◌, ◌<◌, ℕ, List, [], ◌∷◌, Option, ap, arith, rules, sym, subst, drop, length, length-append}
use Rattle.rm_base.specs.declared.faults.NoMemory.{NoMemory}
use Rattle.rm_evidence.specs.{Database.{database_in}, Telling.{TellsAt}, declared.telling.Told.{Told}}
use Rattle.rm_evidence.proofs.Tells.{first-left, tell-next}
use Rattle.rm_evidence.proofs.telling.told_of_each.Goals as goal

pub loop-told-preserved : goal.loop-told-preserved
loop-told-preserved g c =
    let base = database_in c.args.catalog.now in
    let rows = c.args.rows.now in
    let stand : List (Option (List ℕ)) = c.args.stand.now in
    let at = c.loop-told in
    let ts : List Told = at.all in
    let k : ℕ = length ts in
    let t : Told = c.in_ok-told.field-0 in
    let looked : List (Result Told NoMemory) = c.in_ok-looked.looked.items in
    let x : Result Told NoMemory = c.in-Some.told in
    let rest : List (Result Told NoMemory) = into_iter_items c.next.new.self in
    let same : into_iter_items c.into_iter-told-iterator.result ≡ looked = search rules in
    let steps : into_iter_items at.told-iterator ≡ x ∷ rest = c.in-Some.ensures.steps.0 in
    let here = first-left looked k x x rest (ap (drop k) (sym same) ∙ at.invariant.left ∙ steps) in
    let inside : k < length rows = omega (arith, ap length steps, at.invariant.many) in
    let longer = c.in_ok-push.ensures.ok in
    let told : IfOk x (TellsAt base (λ y. y.1.now) rows stand k) = subst (λ (r : Result Told NoMemory). IfOk r (TellsAt base (λ y. y.1.now) rows stand k)) here.0 (c.in_ok-looked.ensures.each k x (search rules)).1.met in
    let tells : TellsAt base (λ y. y.1.now) rows stand k t = subst (λ (r : Result Told NoMemory). IfOk r (TellsAt base (λ y. y.1.now) rows stand k)) c.in_ok-told.was told in
    let new : length c.push.new.self ≡ k + 1 = ap length longer ∙ length-append ts (t ∷ []) in
    record {
      all = tell-next (λ y. y.1.now) rows base stand ts c.push.new.self t inside c.requires.many tells longer at.invariant.all;
      left = ap (λ (n : ℕ). drop n (into_iter_items c.into_iter-told-iterator.result)) new ∙ ap (drop (k + 1)) same ∙ here.1;
      many = omega (arith, new, ap length steps, at.invariant.many);
    }
