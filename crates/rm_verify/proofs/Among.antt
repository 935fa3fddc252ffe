-- Whether a name is among names that ascend, by a binary search.
use Rattle.std.specs.{Prelude.{IfSome, is_some}, Cmp.Lexicographic.{slice_cmp}}
use Rattle.std.specs.List.Sorted.{IsSearchInRange, IsBinarySearchResult, IsNonDecreasingBy}
use Rattle.std.specs.{Ordering.{is_eq, is_lt, nat_cmp, ordering_index, ordering_reverse}, Str.{bytes_eq}, declared.cmp.Ordering.{Ordering}}
use Rattle.std.specs.declared.cmp.Ordering.TheVariants.{Less, Equal, Greater}
use Rattle.std.proofs.Common.{◌≡◌, ◌∙◌, ◌+◌, ◌<◌, ℕ, Bool, true, false, List, [], length, get_or, Option, Some, None, Result, Ok, Err, is_ok, inl, inr, ap, refl, sym, arith}
use Rattle.std.proofs.lemmas.{Bool.{cases_lt}, Cmp.{nat_list_cmp_total, nat_list_eq_equiv}, List.Folds.{list_any_at, list_any_none}}
use Rattle.std.proofs.lemmas.{List.Sorted.{searchable_from_sorted}, Map.{Keys.{Less-from_sorted}, Text.{is_eq-slice_cmp}}}
use Rattle.std.proofs.lemmas.{Map.Views.{Contains-from_any, list_any-from_Contains}, Slice.Eq.{bytes_eq-Decides}}
use Rattle.rm_base.specs.Store.{AreTheNames, Ascends, Held}
use Rattle.rm_evidence.specs.Seen.{IsSeen}
use Rattle.rm_verify.specs.Crosscheck.{is_among, stands_in}

compare : List ℕ → List ℕ → Ordering
compare = slice_cmp nat_cmp

-- the test of two names, by how they compare
tested : (name other : List ℕ) (o : Ordering) → compare other name ≡ o → bytes_eq name other ≡ is_eq o
unfolding compare
tested name other o is = nat_list_eq_equiv.symm name other ∙ sym (is_eq-slice_cmp other name) ∙ ap is_eq is

module _ (names : List (List ℕ)) (ascends : Ascends names) (name : List ℕ) where
  -- no name is below the one before it
  in-order : (k : ℕ) (d : List ℕ) → k + 1 < length names → is_lt (slice_cmp nat_cmp (get_or names (k + 1) d) (get_or names k d)) ≡ false
  in-order k d inside =
      let up = Less-from_sorted (slice_cmp nat_cmp) names k (k + 1) d ascends (omega arith) inside in
      ap is_lt (nat_list_cmp_total.antisymm (get_or names (k + 1) d) (get_or names k d)) ∙ ap (λ o. is_lt (ordering_reverse o)) up

  -- the comparisons with the name rise along the names, as a binary search asks
  comparisons-rise : IsNonDecreasingBy (λ (other : List ℕ). ordering_index (slice_cmp nat_cmp other name)) names
  comparisons-rise = searchable_from_sorted nat_list_cmp_total (λ (n : List ℕ). n) names name (λ k d low inside. in-order k d inside)

  -- a binary search finds a name exactly where it is among them
  pub found-among : (r : Result ℕ ℕ) → IsSearchInRange r (length names) → IsBinarySearchResult (λ (other : List ℕ). slice_cmp nat_cmp other name) names r → is_ok r ≡ is_among names name
  unfolding compare
  found-among (Ok at) inside equal = sym (list_any_at (bytes_eq name) names at [] inside (tested name (get_or names at []) Equal (equal [])))
  found-among (Err at) inside parted = sym (list_any_none (bytes_eq name) names (λ j d within. elim (cases_lt j at) [
    | inl less ↦ tested name (get_or names j d) Less ((parted comparisons-rise).0 j d (omega arith) less)
    | inr past ↦ tested name (get_or names j d) Greater ((parted comparisons-rise).1 j d past within)
  ]))

-- two tests that hold alike are one
alike : (b c : Bool) → (b ≡ true → c ≡ true) → (c ≡ true → b ≡ true) → b ≡ c
alike true c to from = sym (to refl)
alike false true to from = from refl
alike false false to from = refl

-- a name is among those of a store exactly where an object stands under it
pub names-stand : (names : List (List ℕ)) (held : Held) (name : List ℕ) → AreTheNames names held → is_among names name ≡ stands_in held name
names-stand names held name are =
    alike (is_among names name) (stands_in held name)
    (λ found. (are name).0 (Contains-from_any (λ x y. (bytes_eq-Decides x y).0) name names found))
    (λ stands. list_any-from_Contains nat_list_eq_equiv name names ((are name).1 stands))

-- some bytes, or nothing
abbrev bytes-if : Bool → Option (List ℕ)
bytes-if true = Some []
bytes-if false = None

stands-if : (b : Bool) → b ≡ is_some (bytes-if b)
stands-if true = refl
stands-if false = refl

-- the names that a store answers are seen of it
pub names-seen : (o : Option Held) (names : List (List ℕ)) → IfSome o (AreTheNames names) → IsSeen o (λ held. (name : List ℕ) → is_among names name ≡ stands_in held name)
names-seen None names are =
    let held : Held = λ name. bytes-if (is_among names name) in
    (held, λ name. stands-if (is_among names name))
names-seen (Some held) names are = λ name. names-stand names held name are
