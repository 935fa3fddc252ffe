-- What stands in a list, and at which place.
use Rattle.std.specs.List.{filter_map}
use Rattle.std.proofs.Common.{◌≡◌, ◌≤◌, ◌∙◌, inl, inr, ℕ, zero, suc, List, [], ◌∷◌, Option, Some, None, refl, ap, arith, All, Contains, get_or, length, slice_get}
use Rattle.std.proofs.lemmas.{List.Elements.{All-cons, All-nil, Contains-get_or}, Option.{slice_get-get_or}}
use Rattle.rm_base.proofs.Members.{none-in, first-or-rest}

-- what is true of each item by its place is true of all
pub each-get : {X : Type 0} (P : X → Type 0) (xs : List X) → ((k : ℕ) (x : X) → slice_get xs k ≡ Some x → P x) → All P xs
each-get P [] each = All-nil P
each-get P (x ∷ xs) each = All-cons P x xs (each 0 x refl) (each-get P xs (λ k y is. each (suc k) y is))

-- what is true of each member is true of all
pub each-in : {X : Type 0} (P : X → Type 0) (xs : List X) → ((x : X) → Contains xs x → P x) → All P xs
each-in P xs each k d inside = each (get_or xs k d) (Contains-get_or xs k d inside)

-- a member stands at a place
pub at-place : {X : Type 0} (xs : List X) (x : X) → Contains xs x → (k : ℕ) × (slice_get xs k ≡ Some x)
at-place xs x has = (has.0, slice_get-get_or xs has.0 x has.1 ∙ ap Some has.2)

-- what is present stands somewhere
pub present-in : {X : Type 0} (os : List (Option X)) (x : X) → Contains (filter_map (λ o. o) os) x → (k : ℕ) × (slice_get os k ≡ Some (Some x))
present-in [] x has = absurd (none-in x has)
present-in (None ∷ os) x has = let later = present-in os x has in (suc later.0, later.1)
present-in (Some y ∷ os) x has = elim (first-or-rest y (filter_map (λ o. o) os) x has) [
  | inl same ↦ (0, ap (λ z. Some (Some z)) same)
  | inr rest ↦ let later = present-in os x rest in (suc later.0, later.1)
]

-- where nothing stands the list ends
pub past-end : {X : Type 0} (xs : List X) (k : ℕ) → slice_get xs k ≡ None → length xs ≤ k
past-end [] k none = omega arith
past-end (x ∷ xs) zero none = absurd (cc)
past-end (x ∷ xs) (suc k) none = let rest = past-end xs k none in omega (arith, rest)

-- lists of which the same stands at each place are the same
pub same-places : {X : Type 0} (xs ys : List X) → ((k : ℕ) → slice_get xs k ≡ slice_get ys k) → xs ≡ ys
same-places [] [] each = refl
same-places [] (y ∷ ys) each = absurd (let clash : None ≡ Some y = each 0 in cc)
same-places (x ∷ xs) [] each = absurd (let clash : Some x ≡ None = each 0 in cc)
same-places (x ∷ xs) (y ∷ ys) each =
    let first : Some x ≡ Some y = each 0 in
    let same : x ≡ y = cc in
    ap (λ z. z ∷ xs) same ∙ ap (λ zs. y ∷ zs) (same-places xs ys (λ k. each (suc k)))
