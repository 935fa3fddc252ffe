-- Whether a block is listed, by a binary search.
use Rattle.std.specs.{List.Sorted.{IsSearchInRange, IsBinarySearchResult, IsNonDecreasingBy}, Ordering.{nat_cmp, ordering_index}}
use Rattle.std.proofs.Common.{◌≡◌, ◌<◌, ◌==◌, ℕ, true, false, List, length, get_or, AllPairs, Result, Ok, Err, is_ok, inl, inr, ap, sym, arith}
use Rattle.std.proofs.lemmas.{Bool.{cases_lt, Decides.{nat_tests}}, Cmp.{ranked}, List.Folds.{list_any_at, list_any_none}}
use Rattle.rm_base.specs.{Content.{zero_block}, declared.block.Row.{Row}}
use Rattle.rm_history.specs.Agrees.{lists}
use Rattle.rm_piece.specs.Valid.{IsBefore}

blank : Row
blank = record { block = 0; version = 0; content = zero_block }

module _ (rows : List Row) (sorted : AllPairs IsBefore rows) (k : ℕ) where
  -- the comparisons with k rise along the list, as a binary search asks
  comparisons_rise : IsNonDecreasingBy (λ (r : Row). ordering_index (nat_cmp r.block k)) rows
  comparisons_rise = λ i j d le inside. elim (cases_lt i j) [
    | inl less ↦ let up : (get_or rows i d).block < (get_or rows j d).block = sorted i j d less inside in grind (arith, nat_tests)
    | inr past ↦ let same : i ≡ j = omega (arith, le, past) in let e = ap (λ n. ordering_index (nat_cmp (get_or rows n d).block k)) same in omega (arith, e)
  ]

  test_true : (n : ℕ) → n ≡ k → (n == k) ≡ true
  test_true n h = grind (arith, nat_tests)

  test_less : (n : ℕ) → n < k → (n == k) ≡ false
  test_less n h = grind (arith, nat_tests)

  test_more : (n : ℕ) → k < n → (n == k) ≡ false
  test_more n h = grind (arith, nat_tests)

  -- a binary search by block finds one exactly where one is listed
  pub listed : (r : Result ℕ ℕ) → IsSearchInRange r (length rows) → IsBinarySearchResult (λ (r : Row). nat_cmp r.block k) rows r → is_ok r ≡ lists rows k
  listed (Ok at) in_range equal = sym (list_any_at (λ (r : Row). r.block == k) rows at blank in_range (test_true (get_or rows at blank).block (ranked (get_or rows at blank).block k _ (sym (equal blank)))))
  listed (Err at) in_range parted = sym (list_any_none (λ (r : Row). r.block == k) rows (λ j d inside. elim (cases_lt j at) [
    | inl less ↦ test_less (get_or rows j d).block (ranked (get_or rows j d).block k _ (sym ((parted comparisons_rise).0 j d (omega arith) less)))
    | inr past ↦ test_more (get_or rows j d).block (ranked (get_or rows j d).block k _ (sym ((parted comparisons_rise).1 j d past inside)))
  ]))
