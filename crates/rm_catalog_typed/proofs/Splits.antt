-- Objects that ascend by id: where a search finds one, and where one is put.
use Rattle.std.specs.{Prelude.{MatchResult, find, nat_lt}, List.{filter, Sorted.{IsBinarySearchResult, IsNonDecreasingBy, IsSearchInRange}}}
use Rattle.std.specs.{Ordering.{nat_cmp, ordering_index}, declared.cmp.Ordering.TheVariants.{Equal, Greater, Less}}
use Rattle.std.proofs.Common.{◌≡◌, ◌∙◌, ℕ, suc, ◌+◌, ◌<◌, ◌≤◌, ◌==◌, Some, Result, Ok, Err, eq-eqb, inl, inr, Bool, true, false, List, [], ◌∷◌, ◌++◌, refl, ap, sym, subst, arith, length, get_or, take, drop, All, AllPairs, length-take, length-drop}
use Rattle.std.proofs.lemmas.{Bool.{cond-false, cond-true, le-ltb, lt-ltb, ne_eqb, Decides.{nat_tests}}, Cmp.{ranked}}
use Rattle.std.proofs.lemmas.List.{append-nil, get_or-drop, get_or_default, get_or-take, set_split, take-append-drop}
use Rattle.std.proofs.lemmas.{List.Elements.{All-cons, All-push, All-weaker, filter-append}, Option.{slice_get-get_or, slice_get_cases}}
use Rattle.std.proofs.Math.Seq.{drop-cons, take-suc}
use Rattle.rm_base.proofs.Lists.{filter_all, filter_none}
use Rattle.rm_catalog_typed.specs.{Changes.{higher, lower}, Places.{IsAt, IsGap}}

-- what holds of each before a place, and from it on
in-front : {A : Type 0} (P : A → Type 0) (xs : List A) (i : ℕ) → i ≤ length xs → ((k : ℕ) (d : A) → k < i → P (get_or xs k d)) → All P (take i xs)
in-front P xs i le each k d lt = let n = length-take i xs in subst P (sym (get_or-take i xs k d (omega arith))) (each k d (omega arith))

from-there : {A : Type 0} (P : A → Type 0) (xs : List A) (i : ℕ) → ((k : ℕ) (d : A) → i ≤ k → k < length xs → P (get_or xs k d)) → All P (drop i xs)
from-there P xs i each k d lt = let n = length-drop i xs in subst P (sym (get_or-drop i xs k d)) (each (i + k) d (omega arith) (omega arith))

module _ {A : Type 0} (p : A → Bool) where
  -- a test that the first i pass alone keeps these, and one that they alone fail keeps the others
  kept-front : (xs : List A) (i : ℕ) → All (λ x. p x ≡ true) (take i xs) → All (λ x. p x ≡ false) (drop i xs) → filter p xs ≡ take i xs
  kept-front xs i pass fail =
      ap (filter p) (sym (take-append-drop i xs)) ∙ filter-append p (take i xs) (drop i xs)
      ∙ ap (λ ys. ys ++ filter p (drop i xs)) (filter_all p (take i xs) pass) ∙ ap (λ ys. take i xs ++ ys) (filter_none p (drop i xs) fail) ∙ append-nil (take i xs)

  kept-behind : (xs : List A) (i : ℕ) → All (λ x. p x ≡ false) (take i xs) → All (λ x. p x ≡ true) (drop i xs) → filter p xs ≡ drop i xs
  kept-behind xs i fail pass =
      ap (filter p) (sym (take-append-drop i xs)) ∙ filter-append p (take i xs) (drop i xs)
      ∙ ap (λ ys. ys ++ filter p (drop i xs)) (filter_none p (take i xs) fail) ∙ filter_all p (drop i xs) pass

  -- a search goes past those that fail
  find-past : (xs ys : List A) → All (λ x. p x ≡ false) xs → find p (xs ++ ys) ≡ find p ys
  find-past [] ys fail = refl
  find-past (x ∷ xs) ys fail = cond-false (p x) (Some x) (find p (xs ++ ys)) (fail 0 x (omega arith)) ∙ find-past xs ys (λ k d lt. fail (suc k) d (omega arith))

module _ {A : Type 0} (id : A → ℕ) (n : ℕ) (xs : List A) where
  lower-is : (i : ℕ) → All (λ x. id x < n) (take i xs) → All (λ x. n ≤ id x) (drop i xs) → lower id n xs ≡ take i xs
  lower-is i low high =
      kept-front (λ x. nat_lt (id x) n) xs i (All-weaker (λ x. id x < n) (λ x. nat_lt (id x) n ≡ true) (λ x. lt-ltb (id x) n) (take i xs) low)
      (All-weaker (λ x. n ≤ id x) (λ x. nat_lt (id x) n ≡ false) (λ x. le-ltb (id x) n) (drop i xs) high)

  higher-is : (i : ℕ) → All (λ x. id x ≤ n) (take i xs) → All (λ x. n < id x) (drop i xs) → higher id n xs ≡ drop i xs
  higher-is i low high =
      kept-behind (λ x. nat_lt n (id x)) xs i (All-weaker (λ x. id x ≤ n) (λ x. nat_lt n (id x) ≡ false) (λ x. le-ltb n (id x)) (take i xs) low)
      (All-weaker (λ x. n < id x) (λ x. nat_lt n (id x) ≡ true) (λ x. lt-ltb n (id x)) (drop i xs) high)

  -- those of other ids are passed by
  past-lower : (i : ℕ) → All (λ x. id x < n) (take i xs) → find (λ x. id x == n) xs ≡ find (λ x. id x == n) (drop i xs)
  past-lower i low =
      ap (find (λ x. id x == n)) (sym (take-append-drop i xs))
      ∙ find-past (λ x. id x == n) (take i xs) (drop i xs) (All-weaker (λ x. id x < n) (λ x. (id x == n) ≡ false) (λ x less. ne_eqb (id x) n (λ e. omega arith)) (take i xs) low)

  -- the one that stands between the lower and the higher ones
  pub place-of-one : (i : ℕ) (d : A) → AllPairs (λ x y. id x < id y) xs → i < length xs → id (get_or xs i d) ≡ n → IsAt id n xs i
  place-of-one i d up lt own =
      let x = get_or xs i d in
      let low : All (λ y. id y < n) (take i xs) = in-front (λ y. id y < n) xs i (omega arith) (λ k e less. let step = up k i d less lt in omega (arith, ap id (get_or_default xs k d e (omega arith)))) in
      let high : All (λ y. n < id y) (drop (suc i) xs) = from-there (λ y. n < id y) xs (suc i) (λ k e less inside. let step = up i k d (omega arith) inside in omega (arith, ap id (get_or_default xs k d e inside))) in
      let l = lower-is i low (subst (All (λ y. n ≤ id y)) (sym (drop-cons xs i d lt)) (All-cons (λ y. n ≤ id y) x (drop (suc i) xs) (omega arith) (All-weaker (λ y. n < id y) (λ y. n ≤ id y) (λ y h. omega arith) (drop (suc i) xs) high))) in
      let h = higher-is (suc i) (subst (All (λ y. id y ≤ n)) (sym (take-suc xs i d lt)) (All-push (λ y. id y ≤ n) (take i xs) x (All-weaker (λ y. id y < n) (λ y. id y ≤ n) (λ y h. omega arith) (take i xs) low) (omega arith))) high in
      record {
        inside = lt;
        set = λ y same. rw (same, l, h) (set_split xs i y lt);
        gone = rw (l, h);
        found = past-lower i low ∙ ap (find (λ y. id y == n)) (drop-cons xs i d lt) ∙ cond-true (id x == n) (Some x) (find (λ y. id y == n) (drop (suc i) xs)) (eq-eqb (id x) n own) ∙ sym (slice_get-get_or xs i d lt);
      }

  -- or the gap between them
  pub gap-for-one : (i : ℕ) → i ≤ length xs → All (λ x. id x < n) (take i xs) → All (λ x. n < id x) (drop i xs) → IsGap id n xs i
  gap-for-one i le low high =
      let l = lower-is i low (All-weaker (λ y. n < id y) (λ y. n ≤ id y) (λ y h. omega arith) (drop i xs) high) in
      let h = higher-is i (All-weaker (λ y. id y < n) (λ y. id y ≤ n) (λ y h. omega arith) (take i xs) low) high in
      record {
        inside = le;
        put = λ y same. rw (same, l, h);
        none = rw (l, h) (sym (take-append-drop i xs));
        missing = past-lower i low ∙ ap (find (λ y. id y == n)) (sym (append-nil (drop i xs)))
            ∙ find-past (λ y. id y == n) (drop i xs) [] (All-weaker (λ y. n < id y) (λ y. (id y == n) ≡ false) (λ y less. ne_eqb (id y) n (λ e. omega arith)) (drop i xs) high);
      }

  -- how the ids stand to n rises, as a binary search asks
  rise : AllPairs (λ x y. id x < id y) xs → IsNonDecreasingBy (λ x. ordering_index (nat_cmp (id x) n)) xs
  rise up i j d le lt =
      let ids : id (get_or xs i d) ≤ id (get_or xs j d) = grind (arith, up i j d, λ (same : i ≡ j). ap (λ k. id (get_or xs k d)) same) in
      grind (arith, nat_tests)

  -- what a binary search finds
  pub searched : (r : Result ℕ ℕ) → AllPairs (λ x y. id x < id y) xs → IsSearchInRange r (length xs) → IsBinarySearchResult (λ x. nat_cmp (id x) n) xs r → MatchResult r (IsAt id n xs) (IsGap id n xs)
  searched (Ok i) up lt equal = elim (slice_get_cases xs i).1 [
    | inl some ↦ place-of-one i some.0 up lt (ranked (id (get_or xs i some.0)) n Equal (sym (equal some.0)))
    | inr past ↦ absurd (omega arith)
  ]
  searched (Err i) up le parted = gap-for-one i le
      (in-front (λ x. id x < n) xs i le (λ k d lt. ranked (id (get_or xs k d)) n Less (sym ((parted (rise up)).0 k d (omega arith) lt))))
      (from-there (λ x. n < id x) xs i (λ k d low lt. ranked (id (get_or xs k d)) n Greater (sym ((parted (rise up)).1 k d low lt))))
