-- What holds of objects that ascend by id, after one is put among them or taken away.
use Rattle.std.specs.Prelude.{true, cond, nat_lt, not}
use Rattle.std.proofs.Common.{◌++◌, ◌≡◌, ◌∙◌, ℕ, ◌+◌, ◌<◌, ◌≤◌, List, [], ◌∷◌, refl, ap, sym, subst, arith, get_or, length, length-append, All, AllPairs, Contains}
use Rattle.std.proofs.lemmas.{Bool.{ltb-true, Decides.{nat_tests}}, List.{drop_all, length-set, Edits.{insert_end}}}
use Rattle.std.proofs.lemmas.List.Elements.{All-append, All-cons, All-contains, All-filter, All-nil, All-take, All-weaker, Contains-get_or, filter_passes}
use Rattle.std.proofs.lemmas.List.{Filters.{length-filter_both}, Kept.{AllPairs-cons, AllPairs-filter}}
use Rattle.std.proofs.lemmas.List.Sums.{length-filter, sum_by-le-sum_by}
use Rattle.rm_base.proofs.Lists.{pairs-append}
use Rattle.rm_catalog_typed.specs.{Changes.{higher, lower, with_one, without_one}, Fitting.{HasId}}
use Rattle.rm_catalog_typed.proofs.Splits.{gap-for-one, place-of-one}

module _ {A : Type 0} (id : A → ℕ) where
  -- those of lower ids have them, and so have those of higher ids
  lower-under : (n : ℕ) (xs : List A) → All (λ y. id y < n) (lower id n xs)
  lower-under n xs = All-weaker (λ y. nat_lt (id y) n ≡ true) (λ y. id y < n) (λ y. ltb-true (id y) n) (lower id n xs) (filter_passes (λ y. nat_lt (id y) n) xs)

  higher-over : (n : ℕ) (xs : List A) → All (λ y. n < id y) (higher id n xs)
  higher-over n xs = All-weaker (λ y. nat_lt n (id y) ≡ true) (λ y. n < id y) (λ y. ltb-true n (id y)) (higher id n xs) (filter_passes (λ y. nat_lt n (id y)) xs)

  -- what holds of each, and of the one that is put, holds of all after it
  pub all-with : (P : A → Type 0) (x : A) (xs : List A) → All P xs → P x → All P (with_one id x xs)
  all-with P x xs all own =
      All-append P (lower id (id x) xs) (x ∷ higher id (id x) xs) (All-filter (λ y. nat_lt (id y) (id x)) P xs all)
      (All-cons P x (higher id (id x) xs) own (All-filter (λ y. nat_lt (id x) (id y)) P xs all))

  pub all-without : (P : A → Type 0) (n : ℕ) (xs : List A) → All P xs → All P (without_one id n xs)
  all-without P n xs all = All-append P (lower id n xs) (higher id n xs) (All-filter (λ y. nat_lt (id y) n) P xs all) (All-filter (λ y. nat_lt n (id y)) P xs all)

  -- what was there, or is put
  pub contains-with : (P : A → Type 0) (x : A) (xs : List A) → ((y : A) → Contains xs y → P y) → P x → (y : A) → Contains (with_one id x xs) y → P y
  contains-with P x xs each own y has = All-contains P (with_one id x xs) y (all-with P x xs (λ k d lt. each (get_or xs k d) (Contains-get_or xs k d lt)) own) has

  pub contains-without : (P : A → Type 0) (n : ℕ) (xs : List A) → ((y : A) → Contains xs y → P y) → (y : A) → Contains (without_one id n xs) y → P y
  contains-without P n xs each y has = All-contains P (without_one id n xs) y (all-without P n xs (λ k d lt. each (get_or xs k d) (Contains-get_or xs k d lt))) has

  abbrev Ascend : A → A → Type 0
  Ascend x y = id x < id y

  -- ids go on ascending
  pub ascend-with : (x : A) (xs : List A) → AllPairs Ascend xs → AllPairs Ascend (with_one id x xs)
  ascend-with x xs up =
      let low = lower id (id x) xs in
      let high = higher id (id x) xs in
      let from : All (λ z. id x < id z) high = higher-over (id x) xs in
      let upto : All (λ z. id x ≤ id z) (x ∷ high) = All-cons (λ z. id x ≤ id z) x high (omega arith) (All-weaker (λ z. id x < id z) (λ z. id x ≤ id z) (λ z h. omega arith) high from) in
      pairs-append Ascend low (x ∷ high) (AllPairs-filter Ascend (λ y. nat_lt (id y) (id x)) xs up)
      (AllPairs-cons Ascend x high from (AllPairs-filter Ascend (λ y. nat_lt (id x) (id y)) xs up))
      (λ y z has more.
      let under = All-contains (λ w. id w < id x) low y (lower-under (id x) xs) has in
      let over = All-contains (λ w. id x ≤ id w) (x ∷ high) z upto more in
      omega arith)

  pub ascend-without : (n : ℕ) (xs : List A) → AllPairs Ascend xs → AllPairs Ascend (without_one id n xs)
  ascend-without n xs up =
      pairs-append Ascend (lower id n xs) (higher id n xs) (AllPairs-filter Ascend (λ y. nat_lt (id y) n) xs up) (AllPairs-filter Ascend (λ y. nat_lt n (id y)) xs up)
      (λ y z has more.
      let under = All-contains (λ w. id w < n) (lower id n xs) y (lower-under n xs) has in
      let over = All-contains (λ w. n < id w) (higher id n xs) z (higher-over n xs) more in
      omega arith)

  -- how many there are
  short : (n : ℕ) (xs : List A) → length (lower id n xs) + length (higher id n xs) ≤ length xs
  short n xs =
      let both = length-filter_both (λ x. nat_lt (id x) n) (λ x. not (nat_lt (id x) n)) (λ x. refl) xs in
      let high = length-filter (λ x. nat_lt n (id x)) xs in
      let rest = length-filter (λ x. not (nat_lt (id x) n)) xs in
      let less = sum_by-le-sum_by (λ x. cond (nat_lt n (id x)) 1 0) (λ x. cond (not (nat_lt (id x) n)) 1 0) xs (λ x. grind (arith, nat_tests)) in
      omega arith

  pub length-with : (x : A) (xs : List A) → length (with_one id x xs) ≤ length xs + 1
  length-with x xs = let h = short (id x) xs in let l = length-append (lower id (id x) xs) (x ∷ higher id (id x) xs) in omega arith

  pub length-replaced : (x : A) (xs : List A) → AllPairs Ascend xs → HasId id (id x) xs → length (with_one id x xs) ≤ length xs
  length-replaced x xs up (y, (k, lt, is), own) =
      let set = (place-of-one id (id x) xs k y up lt (ap id is ∙ own)).set x refl in
      let long = length-set xs k x in
      let same = ap length set in
      omega arith

  pub length-without : (n : ℕ) (xs : List A) → length (without_one id n xs) ≤ length xs
  length-without n xs = let h = short n xs in let l = length-append (lower id n xs) (higher id n xs) in omega arith

  -- one of a higher id than all comes last
  pub with-last : (x : A) (xs : List A) → All (λ y. id y < id x) xs → with_one id x xs ≡ xs ++ x ∷ []
  with-last x xs low =
      sym ((gap-for-one id (id x) xs (length xs) (omega arith) (All-take (λ y. id y < id x) (length xs) xs low)
      (subst (All (λ y. id x < id y)) (sym (drop_all (length xs) xs (omega arith))) (All-nil (λ y. id x < id y)))).put x refl) ∙ insert_end xs x
