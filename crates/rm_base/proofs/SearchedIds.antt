-- A search in ids that ascend.
use Rattle.std.specs.List.{list_any}
use Rattle.std.proofs.Common.{◌≡◌, ◌<◌, ◌≤◌, ◌==◌, inl, inr, ℕ, List, true, false, sym, subst, arith, get_or, length, AllPairs}
use Rattle.std.proofs.lemmas.{List.{get_or_default}, Bool.{cases_lt, eq-eqb, eqb-true}}
use Rattle.rm_base.proofs.Lists.{any_to, any_fails}

-- they do not fall
pub up_of : (ids : List ℕ) → AllPairs (λ i j. i < j) ids → (i j : ℕ) → i ≤ j → j < length ids → get_or ids i 0 ≤ get_or ids j 0
up_of ids ascend i j most inside = elim (cases_lt i j) [
  | inl less ↦ let up = ascend i j 0 less inside in omega (arith, up)
  | inr here ↦ let same : i ≡ j = omega (arith, most, here) in subst (λ k. get_or ids i 0 ≤ get_or ids k 0) same (omega arith)
]

pub found_is : (ids : List ℕ) (id i : ℕ) → i < length ids → get_or ids i 0 ≡ id → true ≡ list_any (λ y. y == id) ids
found_is ids id i inside is = sym (any_to (λ y. y == id) ids (get_or ids i 0) (i, inside, get_or_same ids i inside) (eq-eqb (get_or ids i 0) id is))
  where
    get_or_same : (xs : List ℕ) (k : ℕ) → k < length xs → get_or xs k (get_or xs i 0) ≡ get_or xs k 0
    get_or_same xs k within = get_or_default xs k (get_or xs i 0) 0 within

pub none_is : (ids : List ℕ) (id i : ℕ) → ((k : ℕ) → k < i → get_or ids k 0 < id) → ((k : ℕ) → i ≤ k → k < length ids → id < get_or ids k 0) → false ≡ list_any (λ y. y == id) ids
none_is ids id i below above = sym (any_fails (λ y. y == id) ids (λ y held passes.
    let same : y ≡ id = eqb-true y id passes in
    let at : get_or ids held.0 0 ≡ y = subst (λ z. z ≡ y) (get_or_default ids held.0 y 0 held.1) held.2 in
    elim (cases_lt held.0 i) [
      | inl low ↦ let less = below held.0 low in omega (arith, less, at, same)
      | inr high ↦ let more = above held.0 high held.1 in omega (arith, more, at, same)
    ]))
