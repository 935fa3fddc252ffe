-- Rows in order, and what keeps them so.
use Rattle.std.proofs.Common.{◌≡◌, ◌≢◌, ◌∙◌, ℕ, zero, suc, List, [], ◌∷◌, ◌++◌, ◌⊎◌, inl, inr, Some, refl, ap, sym, subst, arith, length, slice_get, slice_set}
use Rattle.std.proofs.lemmas.{Bool.{cases_eq}, List.{length-append}}
use Rattle.rm_base.specs.{Created.{created_row}, declared.block.Row.{Row}}
use Rattle.rm_blocks.specs.File.{IsInOrder, created_rows}

slice_get-set_same : (rows : List Row) (k : ℕ) (new r : Row) → slice_get (slice_set rows k new) k ≡ Some r → new ≡ r
slice_get-set_same [] k new r is = absurd (cc)
slice_get-set_same (x ∷ xs) zero new r is = cc
slice_get-set_same (x ∷ xs) (suc k) new r is = slice_get-set_same xs k new r is

slice_get-set_other : (rows : List Row) (k i : ℕ) (new : Row) → i ≢ k → slice_get (slice_set rows k new) i ≡ slice_get rows i
slice_get-set_other [] k i new other = refl
slice_get-set_other (x ∷ xs) zero zero new other = absurd (other refl)
slice_get-set_other (x ∷ xs) zero (suc i) new other = refl
slice_get-set_other (x ∷ xs) (suc k) zero new other = refl
slice_get-set_other (x ∷ xs) (suc k) (suc i) new other = slice_get-set_other xs k i new (λ e. other (ap (λ n. suc n) e))

slice_get-push_cases : (rows : List Row) (new r : Row) (i : ℕ) → slice_get (rows ++ new ∷ []) i ≡ Some r → (slice_get rows i ≡ Some r) ⊎ ((i ≡ length rows) × (new ≡ r))
slice_get-push_cases [] new r zero is = inr (refl, cc)
slice_get-push_cases [] new r (suc i) is = absurd (cc)
slice_get-push_cases (x ∷ xs) new r zero is = inl is
slice_get-push_cases (x ∷ xs) new r (suc i) is = elim (slice_get-push_cases xs new r i is) [
  | inl old ↦ inl old
  | inr last ↦ inr (ap (λ n. suc n) last.0, last.1)
]

-- a row of its block in place of another
pub in_order-set : (rows : List Row) (new : Row) → IsInOrder rows → IsInOrder (slice_set rows new.block new)
in_order-set rows new order k r is = elim (cases_eq k new.block) [
  | inl same ↦
      let got : slice_get (slice_set rows new.block new) new.block ≡ Some r = subst (λ n. slice_get (slice_set rows new.block new) n ≡ Some r) same is in
      sym (ap (λ (x : Row). x.block) (slice_get-set_same rows new.block new r got)) ∙ sym same
  | inr other ↦ order k r (sym (slice_get-set_other rows new.block k new other) ∙ is)
]

pub length-created : (creation blocks : ℕ) → length (created_rows creation blocks) ≡ blocks
length-created creation zero = refl
length-created creation (suc b) = length-append (created_rows creation b) (created_row creation b ∷ []) ∙ omega (arith, length-created creation b)

-- the rows of a new datafile, one by one
pub created-row : (creation blocks k : ℕ) (r : Row) → slice_get (created_rows creation blocks) k ≡ Some r → created_row creation k ≡ r
created-row creation zero k r is = absurd (cc)
created-row creation (suc b) k r is = elim (slice_get-push_cases (created_rows creation b) (created_row creation b) r k is) [
  | inl old ↦ created-row creation b k r old
  | inr last ↦ ap (created_row creation) (last.0 ∙ length-created creation b) ∙ last.1
]

pub in_order-created : (creation blocks : ℕ) → IsInOrder (created_rows creation blocks)
in_order-created creation blocks k r is = sym (ap (λ (x : Row). x.block) (created-row creation blocks k r is))
