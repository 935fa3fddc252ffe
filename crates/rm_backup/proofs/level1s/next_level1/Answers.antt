use Rattle.std.specs.Option.{option_copied}
use Rattle.std.proofs.Common.{◌≡◌, ◌+◌, ◌≤◌, inl, inr, ℕ, List, Some, true, false, refl, take, take_all, sym, subst, arith}
use Rattle.std.proofs.lemmas.Bool.{cases_lt}
use Rattle.rm_piece.specs.declared.piece.Piece.{Piece}
use Rattle.rm_base.specs.Choice.{IsChoice}
use Rattle.rm_base.proofs.{Choices.{choice_passed, choice_only, choice_taken, choice_stays, leads_other_way, leads_through}, Lists.{take_more}}
use Rattle.rm_backup.specs.Level1s.{MergesFirst, MayBeNext}
use Rattle.rm_backup.proofs.level1s.next_level1.Goals.{then-may_be_next+in-Some, then-may_be_next+in_default, in_default-via-in-Some+else-merges_first, in_default-via-in_default, else-may_be_next}
use Rattle.rm_backup.proofs.level1s.next_level1.Goals as goal

itself : (x : ℕ × Piece) → MergesFirst x x
itself x = inr (refl, omega arith)

through : (x b y : ℕ × Piece) → MergesFirst x b → MergesFirst b y → MergesFirst x y
through x b y = leads_through (λ m n. m ≤ n) (λ m n k first second. omega (arith, first, second)) (x.0, x.1.checkpoint) (b.0, b.1.checkpoint) (y.0, y.1.checkpoint)

other_way : (b x : ℕ × Piece) → ¬ MergesFirst b x → MergesFirst x b
other_way b x = leads_other_way (λ m n. m ≤ n) (λ m n above. elim (cases_lt m n) [
  | inl below ↦ absurd (above (omega (arith, below)))
  | inr more ↦ omega (arith, more)
]) (b.0, b.1.checkpoint) (x.0, x.1.checkpoint)

pub loop-level1-preserved : goal.loop-level1-preserved
loop-level1-preserved c =
    let xs = c.args.level1s.now in
    let i = c.loop-level1.level1-index in
    let x = c.level1-item.result in
    let P = λ (y : ℕ × Piece). MayBeNext c.args.catalog.now c.args.file c.args.tag.now c.args.until c.args.copy.now y in
    let more = sym (take_more xs i x c.loop-level1-test.true c.level1-item.is) in
    let was = c.loop-level1.invariant in
    elim c.if-may_be_next.branch [
      | then-may_be_next+in-Some w ↦
          subst (λ o. IsChoice P MergesFirst (take (i + 1) xs) (option_copied o)) (sym w.best-is)
          (subst (λ ys. IsChoice P MergesFirst ys (Some w.in-Some.first.now)) more
          (choice_stays P MergesFirst (take i xs) x w.in-Some.first.now (subst (λ o. IsChoice P MergesFirst (take i xs) (option_copied o)) w.in-Some.is was) (w.if-merges_first.ensures.0 refl)))
      | then-may_be_next+in_default w ↦
          subst (λ o. IsChoice P MergesFirst (take (i + 1) xs) (option_copied o)) (sym w.best-is)
          (subst (λ ys. IsChoice P MergesFirst ys (Some x)) more
          (elim w.in_default.branch [
            | in_default-via-in-Some+else-merges_first v ↦
                choice_taken P MergesFirst (take i xs) x v.in-Some.first.now (subst (λ o. IsChoice P MergesFirst (take i xs) (option_copied o)) v.in-Some.is was) (w.if-may_be_next.ensures.0 refl) (itself x)
                (other_way v.in-Some.first.now x (λ before. let both : false ≡ true = v.if-merges_first.ensures.1 before in absurd (cc))) (λ y. through x v.in-Some.first.now y)
            | in_default-via-in_default v ↦
                choice_only P MergesFirst (take i xs) x (subst (λ o. IsChoice P MergesFirst (take i xs) (option_copied o)) v.in_default.is was) (w.if-may_be_next.ensures.0 refl) (itself x)
          ]))
      | else-may_be_next w ↦
          subst (λ o. IsChoice P MergesFirst (take (i + 1) xs) (option_copied o)) (sym w.best-is)
          (subst (λ ys. IsChoice P MergesFirst ys (option_copied c.loop-level1.best)) more
          (choice_passed P MergesFirst (take i xs) x (option_copied c.loop-level1.best) was (λ passes. let both : false ≡ true = w.if-may_be_next.ensures.1 passes in absurd (cc))))
    ]

pub returns : goal.returns
returns c = subst (λ (xs : List (ℕ × Piece)). IsChoice (MayBeNext c.args.catalog.now c.args.file c.args.tag.now c.args.until c.args.copy.now) MergesFirst xs (option_copied c.loop-level1.best)) (take_all c.loop-level1.level1-index c.args.level1s.now c.loop-level1-test.false) c.loop-level1.invariant
