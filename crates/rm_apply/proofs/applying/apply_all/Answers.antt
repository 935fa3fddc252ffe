use Rattle.std.{specs.Vec.Iter.{into_iter_items}, proofs.Common.{◌≡◌, ◌∙◌, ◌∷◌, ◌++◌, [], List, length, map, sym, ap, append_assoc, arith}}
use Rattle.std.proofs.lemmas.List.Elements.{All-rest}
use Rattle.rm_blocks.specs.File.{File}
use Rattle.rm_apply.specs.{Applying.{IsReady, applied}, declared.plans.Plan.{Plan}}
use Rattle.rm_apply.proofs.applying.apply_all.Goals as goal

pub loop-plan-preserved : goal.loop-plan-preserved
loop-plan-preserved g c =
    let at = c.loop-plan in
    let x = c.in-Some.plan in
    let rest = into_iter_items c.next.new.self in
    let steps : into_iter_items at.plan-iterator ≡ x ∷ rest = c.in-Some.ensures.steps.0 in
    let one_less = c.in-Some.ensures.steps.1 in
    let shorter = ap length steps in
    let f : Plan → File = applied c.args.i c.args.s in
    record {
      files =
          ap (λ (xs : List File). xs ++ map f rest) (c.push.ensures.items ∙ ap (λ (y : File). at.files.items ++ y ∷ []) c.apply.ensures)
          ∙ append_assoc at.files.items (f x ∷ []) (map f rest)
          ∙ ap (λ (ps : List Plan). at.files.items ++ map f ps) (sym steps)
          ∙ at.invariant.files;
      ready = All-rest IsReady x rest (into_iter_items at.plan-iterator) steps at.invariant.ready;
      room = let len = c.push.ensures.len in let capacity = c.push.ensures.capacity in let was = at.invariant.room in omega (arith, shorter, len, capacity, was);
      left = let was = at.invariant.left in omega (arith, one_less, shorter, was);
    }
