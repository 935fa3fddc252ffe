use Rattle.std.specs.Option.{option_copied}
use Rattle.std.proofs.Common.{◌≡◌, ◌+◌, ◌∷◌, ◌++◌, ◌∙◌, [], ℕ, List, Option, Some, true, false, refl, length, take, take_all, ap, sym, subst}
use Rattle.std.proofs.lemmas.Option.{slice_get_read}
use Rattle.rm_base.specs.Choice.{ComesFirst, IsLatest}
use Rattle.rm_base.proofs.Choices.{choice_passed, choice_only, choice_taken, choice_stays, first_itself, first_other_way, first_through}
use Rattle.rm_base.proofs.Lists.{take_more}
use Rattle.rm_piece.specs.declared.piece.Piece.{Piece}
use Rattle.rm_apply.specs.{Restore.{IsBackupFor, MayRestore, shown}, Taking.{base_at}}
use Rattle.rm_apply.proofs.choice.choose.Goals.{then-may_restore+in-Some, then-may_restore+in_default-2, then-may_restore+in_default, else-may_restore}
use Rattle.rm_apply.proofs.choice.choose.Goals as goal

pub loop-place-preserved : goal.loop-place-preserved
loop-place-preserved c =
    let xs = c.args.bases.now in
    let k = c.loop-place.place in
    let x = c.index-bases-place.result in
    let P = λ (y : ℕ × Piece). MayRestore c.args.tree.now c.args.i c.args.s c.args.number y in
    let R = λ (y z : ℕ × Piece). ComesFirst (shown y) (shown z) in
    let more = sym (take_more xs k x c.loop-place-test.true c.index-bases-place.is) in
    let new : base_at xs (Some k) ≡ Some x = slice_get_read xs (length xs) k x refl c.loop-place-test.true c.index-bases-place.is in
    let was = c.loop-place.invariant in
    let on : (o : Option ℕ) (b : Option (ℕ × Piece)) → c.if-may_restore.best ≡ o → base_at xs o ≡ b → IsLatest shown P (take k xs ++ x ∷ []) b → IsLatest shown P (take (k + 1) xs) (base_at xs c.if-may_restore.best) = λ o b best is choice.
    subst (λ z. IsLatest shown P (take (k + 1) xs) z) (sym is ∙ ap (base_at xs) (sym best)) (subst (λ ys. IsLatest shown P ys b) more choice) in
    elim c.if-may_restore.branch [
      | then-may_restore+in-Some w ↦
          let first = sym w.base_at.ensures ∙ ap option_copied w.in-Some.is in
          on c.loop-place.best (Some w.in-Some.first.now) w.best-is first
          (choice_stays P R (take k xs) x w.in-Some.first.now (subst (λ o. IsLatest shown P (take k xs) o) first was) (w.if-comes_first.ensures.0 refl))
      | then-may_restore+in_default-2 w ↦
          let first = sym w.base_at.ensures ∙ ap option_copied w.in-Some.is in
          on (Some k) (Some x) w.best-is new
          (choice_taken P R (take k xs) x w.in-Some.first.now (subst (λ o. IsLatest shown P (take k xs) o) first was) (w.if-may_restore.ensures.0 refl) (first_itself (shown x))
          (first_other_way (shown w.in-Some.first.now) (shown x) (λ before. let both : false ≡ true = w.if-comes_first.ensures.1 before in absurd (cc)))
          (λ y. first_through (shown x) (shown w.in-Some.first.now) (shown y)))
      | then-may_restore+in_default w ↦
          let none = sym w.base_at.ensures ∙ ap option_copied w.in_default.is in
          on (Some k) (Some x) w.best-is new
          (choice_only P R (take k xs) x (subst (λ o. IsLatest shown P (take k xs) o) none was) (w.if-may_restore.ensures.0 refl) (first_itself (shown x)))
      | else-may_restore w ↦
          on c.loop-place.best (base_at xs c.loop-place.best) w.best-is refl
          (choice_passed P R (take k xs) x (base_at xs c.loop-place.best) was (λ passes. let both : false ≡ true = w.if-may_restore.ensures.1 passes in absurd (cc)))
    ]

pub returns : goal.returns
returns c =
    subst (λ (xs : List (ℕ × Piece)). IsBackupFor c.args.tree.now xs c.args.i c.args.s c.args.number (base_at c.args.bases.now c.loop-place.best)) (take_all c.loop-place.place c.args.bases.now c.loop-place-test.false) c.loop-place.invariant
