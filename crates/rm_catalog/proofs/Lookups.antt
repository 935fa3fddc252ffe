-- What an edit leaves at each place.
use Rattle.std.proofs.Common.{◌≡◌, ℕ, suc, ◌<◌, ◌≤◌, Bool, eqb, cond, List, [], ◌∷◌, ◌++◌, Some, None, refl, ap, sym, ◌∙◌, arith, eq-eqb, inl, inr, All}
use Rattle.std.proofs.lemmas.Bool.{cases_lt, cases_eq, lt-ltb, le-ltb}
use Rattle.rm_catalog.specs.{Keys.{place_of, place_of_key, at}, Edits.{below, above, place_of_edit, put_by, after_edit}}
use Rattle.rm_catalog.{specs.declared.record.{Record.{Record}, Edit.{Edit, TheVariants.{Put, Drop}}}, proofs.Found.{differ}}
use Rattle.rm_catalog.proofs.{Filters.{below_low, above_high}, Told.{at_here, at_past}}

at_none : (p : ℕ) (rs : List Record) → All (λ r. ¬ (place_of r ≡ p)) rs → at p rs ≡ None
at_none p [] all = refl
at_none p (r ∷ rs) all = at_past r rs p (all 0 r (omega arith)) ∙ at_none p rs (λ k d lt. all (suc k) d (omega arith))

-- the first list has it, or the second one
at_append_none : (p : ℕ) (xs ys : List Record) → at p xs ≡ None → at p (xs ++ ys) ≡ at p ys
at_append_none p [] ys none = refl
at_append_none p (x ∷ xs) ys none = elim (cases_eq (place_of x) p) [
  | inl here ↦ absurd (let no : Some x ≡ None = sym (at_here x xs p here) ∙ none in cc)
  | inr n ↦ at_past x (xs ++ ys) p n ∙ at_append_none p xs ys (sym (at_past x xs p n) ∙ none)
]

at_append_past : (p : ℕ) (xs ys : List Record) → at p ys ≡ None → at p (xs ++ ys) ≡ at p xs
at_append_past p [] ys none = none
at_append_past p (x ∷ xs) ys none = elim (cases_eq (place_of x) p) [
  | inl here ↦ at_here x (xs ++ ys) p here ∙ sym (at_here x xs p here)
  | inr n ↦ at_past x (xs ++ ys) p n ∙ at_append_past p xs ys none ∙ sym (at_past x xs p n)
]

at_below : (p q : ℕ) (rs : List Record) → p < q → at p (below q rs) ≡ at p rs
at_below p q [] lt = refl
at_below p q (r ∷ rs) lt = elim (cases_lt (place_of r) q) [
  | inl low ↦ ap (λ (b : Bool). at p (cond b (r ∷ below q rs) (below q rs))) (lt-ltb (place_of r) q low) ∙ elim (cases_eq (place_of r) p) [
    | inl here ↦ at_here r (below q rs) p here ∙ sym (at_here r rs p here)
    | inr n ↦ at_past r (below q rs) p n ∙ at_below p q rs lt ∙ sym (at_past r rs p n)
  ]
  | inr le ↦ ap (λ (b : Bool). at p (cond b (r ∷ below q rs) (below q rs))) (le-ltb (place_of r) q le) ∙ at_below p q rs lt ∙ sym (at_past r rs p (λ e. omega arith))
]

at_above : (p q : ℕ) (rs : List Record) → q < p → at p (above q rs) ≡ at p rs
at_above p q [] lt = refl
at_above p q (r ∷ rs) lt = elim (cases_lt q (place_of r)) [
  | inl high ↦ ap (λ (b : Bool). at p (cond b (r ∷ above q rs) (above q rs))) (lt-ltb q (place_of r) high) ∙ elim (cases_eq (place_of r) p) [
    | inl here ↦ at_here r (above q rs) p here ∙ sym (at_here r rs p here)
    | inr n ↦ at_past r (above q rs) p n ∙ at_above p q rs lt ∙ sym (at_past r rs p n)
  ]
  | inr le ↦ ap (λ (b : Bool). at p (cond b (r ∷ above q rs) (above q rs))) (le-ltb q (place_of r) le) ∙ at_above p q rs lt ∙ sym (at_past r rs p (λ e. omega arith))
]

none_below : (p q : ℕ) (rs : List Record) → q ≤ p → at p (below q rs) ≡ None
none_below p q rs le = at_none p (below q rs) (λ k d lt e. let low = below_low q rs k d lt in omega arith)

none_above : (p q : ℕ) (rs : List Record) → p ≤ q → at p (above q rs) ≡ None
none_above p q rs le = at_none p (above q rs) (λ k d lt e. let high = above_high q rs k d lt in omega arith)

-- at its own place an edit leaves what it puts
own_place : (e : Edit) (rs : List Record) → at (place_of_edit e) (after_edit e rs) ≡ put_by e
own_place (Put r) rs = at_append_none (place_of r) (below (place_of r) rs) (r ∷ above (place_of r) rs) (none_below (place_of r) (place_of r) rs (omega arith)) ∙ at_here r (above (place_of r) rs) (place_of r) refl
own_place (Drop key) rs = at_append_none (place_of_key key) (below (place_of_key key) rs) (above (place_of_key key) rs) (none_below (place_of_key key) (place_of_key key) rs (omega arith)) ∙ none_above (place_of_key key) (place_of_key key) rs (omega arith)

lower_place : (e : Edit) (rs : List Record) (p : ℕ) → p < place_of_edit e → at p (after_edit e rs) ≡ at p rs
lower_place (Put r) rs p lt =
    at_append_past p (below (place_of r) rs) (r ∷ above (place_of r) rs) (at_past r (above (place_of r) rs) p (λ e. omega arith) ∙ none_above p (place_of r) rs (omega arith)) ∙ at_below p (place_of r) rs lt
lower_place (Drop key) rs p lt =
    at_append_past p (below (place_of_key key) rs) (above (place_of_key key) rs) (none_above p (place_of_key key) rs (omega arith)) ∙ at_below p (place_of_key key) rs lt

higher_place : (e : Edit) (rs : List Record) (p : ℕ) → place_of_edit e < p → at p (after_edit e rs) ≡ at p rs
higher_place (Put r) rs p lt =
    at_append_none p (below (place_of r) rs) (r ∷ above (place_of r) rs) (none_below p (place_of r) rs (omega arith)) ∙ at_past r (above (place_of r) rs) p (λ e. omega arith) ∙ at_above p (place_of r) rs lt
higher_place (Drop key) rs p lt =
    at_append_none p (below (place_of_key key) rs) (above (place_of_key key) rs) (none_below p (place_of_key key) rs (omega arith)) ∙ at_above p (place_of_key key) rs lt

pub at_after : (e : Edit) (rs : List Record) (p : ℕ) → at p (after_edit e rs) ≡ cond (eqb (place_of_edit e) p) (put_by e) (at p rs)
at_after e rs p = elim (cases_eq (place_of_edit e) p) [
  | inl same ↦ ap (λ (q : ℕ). at q (after_edit e rs)) (sym same) ∙ own_place e rs ∙ sym (ap (λ (b : Bool). cond b (put_by e) (at p rs)) (eq-eqb (place_of_edit e) p same))
  | inr apart ↦ elim (cases_lt p (place_of_edit e)) [
    | inl lower ↦ lower_place e rs p lower ∙ sym (ap (λ (b : Bool). cond b (put_by e) (at p rs)) (differ (place_of_edit e) p apart))
    | inr le ↦ higher_place e rs p (above_it (place_of_edit e) p apart le) ∙ sym (ap (λ (b : Bool). cond b (put_by e) (at p rs)) (differ (place_of_edit e) p apart))
  ]
]
  where
    above_it : (m n : ℕ) → (m ≡ n → ⊥) → m ≤ n → m < n
    above_it m n apart le = grind arith
