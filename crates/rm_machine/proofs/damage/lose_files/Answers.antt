use Rattle.std.proofs.Common.{◌≡◌, ◌<◌, ◌+◌, ◌∙◌, ◌++◌, None, arith, drop, length, sym, subst, take}
use Rattle.rm_machine.{specs.Damage.{undamaged}, proofs.DamageLoops.{as-many, kept-next, lost-next}}
use Rattle.rm_machine.proofs.damage.lose_files.Goals.{then-has_file+in-Some-1, then-has_file+in-None-1, else-has_file}
use Rattle.rm_machine.proofs.damage.lose_files.Goals as goal

pub loop-index-preserved : goal.loop-index-preserved
loop-index-preserved c =
    let k = c.loop-index.index in
    let xs = c.args.damaged.now in
    let all = undamaged xs 1 c.args.place.now.items in
    let items = c.loop-index.place.items in
    let was = c.loop-index.invariant in
    let inside : k < length items = omega (arith, c.loop-index-test.true, c.len-index-end.ensures, as-many xs items c.args.place.now.items k was) in
    elim c.if-has_file.branch [
      | then-has_file+in-Some-1 w ↦ subst (λ v. take (k + 1) v.items ++ undamaged xs (1 + (k + 1)) (drop (k + 1) v.items) ≡ all) (sym w.place-is) (lost-next xs items all k None inside was (sym c.has_file.ensures ∙ w.if-has_file.true))
      | then-has_file+in-None-1 w ↦ subst (λ v. take (k + 1) v.items ++ undamaged xs (1 + (k + 1)) (drop (k + 1) v.items) ≡ all) (sym w.place-is) (lost-next xs items all k None inside was (sym c.has_file.ensures ∙ w.if-has_file.true))
      | else-has_file w ↦ subst (λ v. take (k + 1) v.items ++ undamaged xs (1 + (k + 1)) (drop (k + 1) v.items) ≡ all) (sym w.place-is) (kept-next xs items all k None inside was (sym c.has_file.ensures ∙ w.if-has_file.false))
    ]
