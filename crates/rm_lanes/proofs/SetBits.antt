-- Bits of lists of bytes: those of an or, and the next one.
use Rattle.std.specs.Int.{bit_at}
use Rattle.std.proofs.Common.{◌≡◌, ◌⊎◌, ◌↔◌, inl, inr, ℕ, zero, suc, ◌*◌, ◌/◌, ◌%◌, ◌<◌, ◌^◌, ◌==◌, ◌||◌, Bool, true, false, List, [], ◌∷◌, length, slice_index, max, bit_or, refl, ap, sym, ◌∙◌, arith, eqb-true}
use Rattle.std.proofs.lemmas.{Bool.{cases_Bool, cases_lt, eqb-false}, Nat.{pow_pos, Bits.{and_pow, bit_at-lt, bit_at_or}}}
use Rattle.rm_lanes.specs.Bits.{IsNextSet, IsSet, bitwise_or, is_set}

max-or : (u v : ℕ) → u < 2 → v < 2 → (max u v == 1) ≡ ((u == 1) || (v == 1))
max-or zero zero low low' = refl
max-or zero (suc zero) low low' = refl
max-or (suc zero) zero low low' = refl
max-or (suc zero) (suc zero) low low' = refl
max-or (suc (suc u)) v low low' = absurd (omega (arith, low))
max-or zero (suc (suc v)) low low' = absurd (omega (arith, low'))
max-or (suc zero) (suc (suc v)) low low' = absurd (omega (arith, low'))

ored-at : (xs ys : List ℕ) (i : ℕ) → length xs ≡ length ys → slice_index (bitwise_or xs ys) i ≡ bit_or (slice_index xs i) (slice_index ys i)
ored-at [] [] i same = refl
ored-at [] (y ∷ ys) i same = absurd (omega (arith, same))
ored-at (x ∷ xs) [] i same = absurd (omega (arith, same))
ored-at (x ∷ xs) (y ∷ ys) zero same = refl
ored-at (x ∷ xs) (y ∷ ys) (suc i) same = ored-at xs ys i (omega (arith, same))

pub is_set-or : (xs ys : List ℕ) (k : ℕ) → length xs ≡ length ys → is_set (bitwise_or xs ys) k ≡ (is_set xs k || is_set ys k)
is_set-or xs ys k same =
    let i = k / 8 in
    let j = k % 8 in
    ap (λ (y : ℕ). bit_at y j == 1) (ored-at xs ys i same)
    ∙ ap (λ (y : ℕ). y == 1) (bit_at_or (slice_index xs i) (slice_index ys i) j)
    ∙ max-or (bit_at (slice_index xs i) j) (bit_at (slice_index ys i) j) (bit_at-lt (slice_index xs i) j) (bit_at-lt (slice_index ys i) j)

pub length-or : (xs ys : List ℕ) → length xs ≡ length ys → length (bitwise_or xs ys) ≡ length xs
length-or [] ys same = refl
length-or (x ∷ xs) [] same = absurd (omega (arith, same))
length-or (x ∷ xs) (y ∷ ys) same = ap suc (length-or xs ys (omega (arith, same)))

pub to-set : (bytes : List ℕ) (k : ℕ) → is_set bytes k ≡ true → IsSet bytes k
to-set bytes k is none =
    let x = slice_index bytes (k / 8) in
    let j = k % 8 in
    let one : bit_at x j ≡ 1 = eqb-true (bit_at x j) 1 is in
    let gone : 1 * 2 ^ j ≡ 0 = ap (λ (y : ℕ). y * 2 ^ j) (sym one) ∙ sym (and_pow x j) ∙ none in
    omega (arith, gone, pow_pos j)

pub from-set : (bytes : List ℕ) (k : ℕ) → IsSet bytes k → is_set bytes k ≡ true
from-set bytes k some = by (cases_Bool (is_set bytes k))
  where
    x : ℕ
    x = slice_index bytes (k / 8)

    j : ℕ
    j = k % 8

    by : (is_set bytes k ≡ true) ⊎ (is_set bytes k ≡ false) → is_set bytes k ≡ true
    by (inl is) = is
    by (inr not) =
        let nil : bit_at x j ≡ 0 = omega (arith, bit_at-lt x j, eqb-false (bit_at x j) 1 not) in
        let gone : 0 * 2 ^ j ≡ 0 = omega arith in
        absurd (some (and_pow x j ∙ ap (λ (y : ℕ). y * 2 ^ j) nil ∙ gone))

-- set exactly where it is set in either
pub or-set : (xs ys : List ℕ) (k : ℕ) → length xs ≡ length ys → (IsSet (bitwise_or xs ys) k ↔ (IsSet xs k ⊎ IsSet ys k))
or-set xs ys k same = (
  (λ s. by (is_set xs k) (is_set ys k) refl refl (sym (is_set-or xs ys k same) ∙ from-set (bitwise_or xs ys) k s)),
  (λ s. to-set (bitwise_or xs ys) k (is_set-or xs ys k same ∙ elim s [
    | inl mine ↦ ap (λ x. x || is_set ys k) (from-set xs k mine)
    | inr theirs ↦ ap (λ y. is_set xs k || y) (from-set ys k theirs) ∙ or-true (is_set xs k)
  ])),
)
  where
    or-true : (x : Bool) → (x || true) ≡ true
    or-true true = refl
    or-true false = refl

    by : (x y : Bool) → is_set xs k ≡ x → is_set ys k ≡ y → (is_set xs k || is_set ys k) ≡ true → IsSet xs k ⊎ IsSet ys k
    by true y is is' or = inl (to-set xs k is)
    by false y is is' or = inr (to-set ys k (sym (ap (λ x. x || is_set ys k) is) ∙ or))

-- two next ones are the same
pub next-one : (bytes : List ℕ) (from j k : ℕ) → IsNextSet bytes from j → IsNextSet bytes from k → j ≡ k
next-one bytes from j k one two = elim (cases_lt j k) [
  | inl low ↦ absurd (two.least j one.reached low one.set)
  | inr high ↦ elim (cases_lt k j) [ inl low ↦ absurd (one.least k two.reached low two.set) | inr same ↦ omega (arith, high, same) ]
]
