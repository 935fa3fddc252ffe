-- A backup that gave up its rows.
use Rattle.std.proofs.Common.{◌≡◌, ◌≢◌, ◌<◌, ◌⊎◌, ◌∙◌, inl, inr, ℕ, zero, suc, List, [], ◌∷◌, Option, Some, None, IfSome, Contains, get_or, length, slice_get, slice_set, subst, sym}
use Rattle.std.proofs.lemmas.{List.{set-get_or, set-set}, Option.{slice_get-get_or}}
use Rattle.rm_base.{specs.Choice.{ComesFirst, IsChoice}, proofs.Members.{behind, first-or-rest, in-front}}
use Rattle.rm_history.specs.declared.tree.Incarnation.{Incarnation}
use Rattle.rm_piece.specs.declared.piece.Piece.{Piece}
use Rattle.rm_apply.specs.{Restore.{MayRestore, shown}, Taking.{Stays}}

-- an item of a list after one was set is that one, or was there
set-held : {X : Type 0} (xs : List X) (k : ℕ) (new y : X) → Contains (slice_set xs k new) y → (new ≡ y) ⊎ Contains xs y
set-held [] k new y has = inr has
set-held (x ∷ xs) zero new y has = elim (first-or-rest new xs y has) [
  | inl same ↦ inl same
  | inr late ↦ inr (behind x xs y late)
]
set-held (x ∷ xs) (suc k) new y has = elim (first-or-rest x (slice_set xs k new) y has) [
  | inl same ↦ inr (subst (Contains (x ∷ xs)) same (in-front x xs))
  | inr late ↦ elim (set-held xs k new y late) [
    | inl here ↦ inl here
    | inr old ↦ inr (behind x xs y old)
  ]
]

module _ {X : Type 0} (P : X → Type 0) (xs : List X) (k : ℕ) (d new : X) (before : ¬ P (get_or xs k d)) (after : ¬ P new) where
  -- where neither the new one nor the one in whose place it stands passes, those that pass are the same
  still : (y : X) → P y → Contains xs y → Contains (slice_set xs k new) y
  still y passes has =
      let back = sym (set-set xs k new (get_or xs k d) ∙ set-get_or xs k d) in
      elim (set-held (slice_set xs k new) k (get_or xs k d) y (subst (λ ys. Contains ys y) back has)) [
        | inl same ↦ absurd (before (subst P (sym same) passes))
        | inr there ↦ there
      ]

  -- and so is the choice
  choice-set : (R : X → X → Type 0) (o : Option X) → IsChoice P R (slice_set xs k new) o → IsChoice P R xs o
  choice-set R None none = λ y has passes. none y (still y passes has) passes
  choice-set R (Some b) is = record {
    held = elim (set-held xs k new b is.held) [
      | inl same ↦ absurd (after (subst P (sym same) is.passes))
      | inr there ↦ there
    ];
    passes = is.passes;
    first = λ y has passes. is.first y (still y passes has) passes;
  }

-- where a backup gave up its rows, the choice for each other datafile stays
pub others-stay : (xs : List (ℕ × Piece)) (k : ℕ) (d new : ℕ × Piece) → k < length xs → new.1.file ≡ (get_or xs k d).1.file
    → (tree : List Incarnation) (i s f : ℕ) → IfSome (slice_get xs k) (λ x. x.1.file ≢ f) → Stays tree i s xs (slice_set xs k new) f
others-stay xs k d new inside same tree i s f other =
    let fails : (get_or xs k d).1.file ≢ f = subst (λ (o : Option (ℕ × Piece)). IfSome o (λ x. x.1.file ≢ f)) (slice_get-get_or xs k d inside) other in
    choice-set (MayRestore tree i s f) xs k d new (λ may. fails may.file) (λ may. fails (sym same ∙ may.file)) (λ x y. ComesFirst (shown x) (shown y))
