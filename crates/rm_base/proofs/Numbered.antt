-- Items with their numbers.
use Rattle.std.specs.List.{enumerate_from}
use Rattle.std.proofs.Common.{◌≡◌, ◌<◌, ◌+◌, ◌∙◌, ℕ, List, Some, length, get_or, slice_get, Contains, All, AllPairs, sym, ap, subst, arith}
use Rattle.std.proofs.lemmas.List.FromFn.{get_or-enumerate_from, length-enumerate_from}
use Rattle.std.proofs.lemmas.Option.{get_or_from_slice_get, slice_get-get_or, slice_get_within}

-- the pair is an item of the list with its number, where these go on from n
pub record IsNumbered {X : Type 0} (n : ℕ) (xs : List X) (p : ℕ × X) : Type 0 where
  pub place : ℕ
  pub there : slice_get xs place ≡ Some p.1
  pub number : n + place ≡ p.0

module _ {X : Type 0} (n : ℕ) (xs : List X) where
  pub numbered-at : (k : ℕ) (x : X) → slice_get xs k ≡ Some x → Contains (enumerate_from n xs) (n + k, x)
  numbered-at k x is =
      let inside : k < length xs = slice_get_within xs k x is in
      (k, omega (arith, inside, length-enumerate_from n xs), get_or-enumerate_from n xs k (n + k, x) inside ∙ ap {B = ℕ × X} (λ (y : X). (n + k, y)) (get_or_from_slice_get xs k x x is))

  pub numbered-of : (p : ℕ × X) → Contains (enumerate_from n xs) p → IsNumbered n xs p
  numbered-of p (k, inside, is) =
      let within : k < length xs = omega (arith, inside, length-enumerate_from n xs) in
      let same : (n + k, get_or xs k p.1) ≡ p = sym (get_or-enumerate_from n xs k p within) ∙ is in
      record { place = k; there = slice_get-get_or xs k p.1 within ∙ ap (λ (q : ℕ × X). Some q.1) same; number = ap (λ (q : ℕ × X). q.0) same }

  -- what is true of each item with its number is true of all
  pub all-numbered : (P : ℕ × X → Type 0) → ((k : ℕ) (x : X) → slice_get xs k ≡ Some x → P (n + k, x)) → All P (enumerate_from n xs)
  all-numbered P each k d inside =
      let within : k < length xs = omega (arith, inside, length-enumerate_from n xs) in
      subst P (sym (get_or-enumerate_from n xs k d within)) (each k (get_or xs k d.1) (slice_get-get_or xs k d.1 within))

  -- the numbers ascend
  pub numbers-ascend : AllPairs (λ (p q : ℕ × X). p.0 < q.0) (enumerate_from n xs)
  numbers-ascend i k d less inside =
      let within : k < length xs = omega (arith, inside, length-enumerate_from n xs) in
      let first = ap (λ (q : ℕ × X). q.0) (get_or-enumerate_from n xs i d (omega (arith, less, within))) in
      let second = ap (λ (q : ℕ × X). q.0) (get_or-enumerate_from n xs k d within) in
      omega (arith, first, second, less)
