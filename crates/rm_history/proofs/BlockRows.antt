-- The rows of all blocks of a datafile.
use Rattle.std.proofs.Common.{◌≡◌, ◌<◌, ◌≤◌, ◌+◌, ◌∙◌, ◌++◌, inl, inr, ℕ, zero, suc, [], ◌∷◌, ap, subst, arith, Contains}
use Rattle.std.proofs.lemmas.Bool.{cases_lt}
use Rattle.rm_base.{specs.declared.block.Row.{Row}, proofs.Members.{behind, first-or-rest, in-front, none-in}}
use Rattle.rm_history.specs.State.{rows_from}

-- one block more
pub rows_from-push : (row : ℕ → Row) (b n : ℕ) → rows_from row b n ++ row (b + n) ∷ [] ≡ rows_from row b (n + 1)
rows_from-push row b zero = ap (λ k. row k ∷ []) (omega arith)
rows_from-push row b (suc n) =
    ap (λ k. row b ∷ (rows_from row (b + 1) n ++ row k ∷ [])) (omega arith)
    ∙ ap (λ rows. row b ∷ rows) (rows_from-push row (b + 1) n)
    ∙ (let next : suc (n + 1) ≡ suc n + 1 = omega arith in ap (rows_from row b) next)

-- each is the row of its block
pub row-read : (row : ℕ → Row) (b n : ℕ) (r : Row) → Contains (rows_from row b n) r → (k : ℕ) × (b ≤ k) × (k < b + n) × (row k ≡ r)
row-read row b zero r has = absurd (none-in r has)
row-read row b (suc n) r has = elim (first-or-rest (row b) (rows_from row (b + 1) n) r has) [
  | inl is ↦ (b, omega arith, omega arith, is)
  | inr rest ↦ let found = row-read row (b + 1) n r rest in (found.0, omega (arith, found.1), omega (arith, found.2), found.3)
]

-- and each block has its row there
pub row-there : (row : ℕ → Row) (b n k : ℕ) → b ≤ k → k < b + n → Contains (rows_from row b n) (row k)
row-there row b zero k low high = absurd (omega (arith, low, high))
row-there row b (suc n) k low high = elim (cases_lt b k) [
  | inl above ↦ behind (row b) (rows_from row (b + 1) n) (row k) (row-there row (b + 1) n k (omega (arith, above)) (omega (arith, high)))
  | inr here ↦
      let first : b ≡ k = omega (arith, here, low) in
      subst (λ j. Contains (rows_from row b (suc n)) (row j)) first (in-front (row b) (rows_from row (b + 1) n))
]
