-- Items whose numbers ascend without a gap: they are 1, 2, 3 and so on.
use Rattle.std.proofs.Common.{◌≡◌, ℕ, zero, suc, ◌+◌, ◌<◌, ◌≤◌, List, length, get_or, ap, ◌∙◌, arith, inl, inr, Contains, AllPairs}
use Rattle.std.proofs.lemmas.{Bool.{cases_lt}, List.{get_or_default, Elements.{Contains-get_or}}}

-- of numbers that ascend, a lower one stands before
pub lower-before : {A : Type 0} (number : A → ℕ) (xs : List A) (j k : ℕ) (d : A) → AllPairs (λ x y. number x < number y) xs → j < length xs → number (get_or xs j d) < number (get_or xs k d) → j < k
lower-before number xs j k d pairs inside less = elim (cases_lt j k) [
  | inl before ↦ before
  | inr after ↦ elim (cases_lt k j) [
    | inl behind ↦ let more = pairs k j d behind inside in absurd (omega arith)
    | inr le ↦
        let one : j ≡ k = omega arith in
        let same = ap (λ (i : ℕ). number (get_or xs i d)) one in
        absurd (omega arith)
  ]
]

pub at-most : {A : Type 0} (number : A → ℕ) (xs : List A) (j k : ℕ) (d : A) → AllPairs (λ x y. number x < number y) xs → j ≤ k → k < length xs → number (get_or xs j d) ≤ number (get_or xs k d)
at-most number xs j k d pairs le inside = elim (cases_lt j k) [
  | inl before ↦ let less = pairs j k d before inside in omega arith
  | inr after ↦
      let one : j ≡ k = omega arith in
      let same = ap (λ (i : ℕ). number (get_or xs i d)) one in
      omega arith
]

-- each number is at least 1, and the one below each higher one is there
pub record HasNoGap (A : Type 0) (number : A → ℕ) (xs : List A) : Type 0 where
  pub low : (x : A) → Contains xs x → 1 ≤ number x
  pub below : (x : A) → Contains xs x → 1 < number x → (y : A) × Contains xs y × (number y + 1 ≡ number x)

-- numbers that ascend without a gap are 1, 2, 3 and so on
pub numbers-are : {A : Type 0} (number : A → ℕ) (xs : List A) (k : ℕ) (d : A) → AllPairs (λ x y. number x < number y) xs → HasNoGap A number xs → k < length xs → number (get_or xs k d) ≡ k + 1
numbers-are number xs zero d pairs gapless inside =
    let x = get_or xs 0 d in
    let has : Contains xs x = Contains-get_or xs 0 d inside in
    let low = gapless.low x has in
    elim (cases_lt 1 (number x)) [
      | inl more ↦
          let y = gapless.below x has more in
          let place = y.1.0 in
          let within : place < length xs = y.1.1 in
          let is = ap number (get_or_default xs place d y.0 within ∙ y.1.2) in
          let next = y.2 in
          let before = lower-before number xs place 0 d pairs within (omega arith) in
          absurd (omega arith)
      | inr le ↦ omega arith
    ]
numbers-are number xs (suc k) d pairs gapless inside =
    let last = numbers-are number xs k d pairs gapless (omega arith) in
    let x = get_or xs (suc k) d in
    let has : Contains xs x = Contains-get_or xs (suc k) d inside in
    let up = pairs k (suc k) d (omega arith) inside in
    elim (cases_lt (k + 2) (number x)) [
      | inl more ↦
          let y = gapless.below x has (omega arith) in
          let place = y.1.0 in
          let within : place < length xs = y.1.1 in
          let is = ap number (get_or_default xs place d y.0 within ∙ y.1.2) in
          let next = y.2 in
          let before = lower-before number xs place (suc k) d pairs within (omega arith) in
          let most = at-most number xs place k d pairs (omega arith) (omega arith) in
          absurd (omega arith)
      | inr le ↦ omega arith
    ]
