-- How many bits are set, bit by bit.
use Rattle.std.specs.{Int.{bit_at}, List.{range_with_len}, Simd.Lanes.{mask_l}}
use Rattle.std.proofs.Common.{◌≡◌, inl, inr, ℕ, zero, suc, ◌-◌, ◌*◌, ◌/◌, ◌%◌, ◌<◌, ◌^◌, ◌==◌, Bool, false, cond, List, [], ◌∷◌, ◌++◌, length, map, get_or, slice_index, count_by, count_ones, refl, ap, sym, ◌∙◌, arith, length-append, All, Fits, w8}
use Rattle.std.proofs.lemmas.{Bool.{cases_lt}, List.{get_or-append_right, get_or_append_left, get_or_past}}
use Rattle.std.proofs.lemmas.List.{FromFn.{fill_by_all, get_or-map-range_with_len}, Sums.{sum_by-append, sum_by-cons}}
use Rattle.std.proofs.lemmas.{Nat.Bits.{bit_at-lt, bit_at-zero, same_from_bits_below}, Simd.{bit_mask_l, mask_l-lt, ones-mask_l}}
use Rattle.rm_lanes.specs.Bits.{is_set, set_count}

abbrev pub itself : Bool → Bool
itself m = m

-- how many of these are true
abbrev pub counted : List Bool → ℕ
counted ms = count_by itself ms

-- the bits of a byte
abbrev bits_of_byte : ℕ → List Bool
bits_of_byte x = map (λ j. bit_at x j == 1) (range_with_len 0 8)

one-or-none : (u : ℕ) → u < 2 → cond (u == 1) 1 0 ≡ u
one-or-none zero low = refl
one-or-none (suc zero) low = refl
one-or-none (suc (suc u)) low = absurd (omega (arith, low))

-- a byte is made of its bits
byte-of : (x : ℕ) → x < 2 ^ 8 → mask_l (bits_of_byte x) ≡ x
byte-of x fits =
    same_from_bits_below 8 (mask_l (bits_of_byte x)) x (mask_l-lt (bits_of_byte x)) fits
    (λ i low. bit_mask_l (bits_of_byte x) i
    ∙ ap (λ (m : Bool). cond m 1 0) (get_or-map-range_with_len (λ j. bit_at x j == 1) 0 8 i i false low (omega arith))
    ∙ one-or-none (bit_at x i) (bit_at-lt x i))

ones-of : (x : ℕ) → x < 2 ^ 8 → count_ones x ≡ counted (bits_of_byte x)
ones-of x fits = ap count_ones (sym (byte-of x fits)) ∙ ones-mask_l itself (bits_of_byte x)

-- the bits of bytes
abbrev pub bits_of : List ℕ → List Bool
bits_of [] = []
bits_of (x ∷ xs) = bits_of_byte x ++ bits_of xs

pub length-bits : (xs : List ℕ) → length (bits_of xs) ≡ 8 * length xs
length-bits [] = refl
length-bits (x ∷ xs) = length-append (bits_of_byte x) (bits_of xs) ∙ omega (arith, length-bits xs)

pub bits-at : (xs : List ℕ) (k : ℕ) → get_or (bits_of xs) k false ≡ is_set xs k
bits-at [] k = sym (ap (λ (y : ℕ). y == 1) (bit_at-zero (k % 8)))
bits-at (x ∷ xs) k = elim (cases_lt k 8) [
  | inl low ↦
      let first : k / 8 ≡ 0 = omega (arith, low) in
      let same : k % 8 ≡ k = omega (arith, low) in
      get_or_append_left (bits_of_byte x) (bits_of xs) false k low
      ∙ get_or-map-range_with_len (λ j. bit_at x j == 1) 0 8 k k false low (omega arith)
      ∙ sym (λ i. bit_at (slice_index (x ∷ xs) (first i)) (same i) == 1)
  | inr high ↦
      let next : k / 8 ≡ suc ((k - 8) / 8) = omega (arith, high) in
      let same : k % 8 ≡ (k - 8) % 8 = omega (arith, high) in
      get_or-append_right (bits_of_byte x) (bits_of xs) 8 k false refl high
      ∙ bits-at xs (k - 8)
      ∙ sym (λ i. bit_at (slice_index (x ∷ xs) (next i)) (same i) == 1)
]

pub counted-bits : (xs : List ℕ) → ((k : ℕ) → Fits w8 (get_or xs k 0)) → set_count xs ≡ counted (bits_of xs)
counted-bits [] fit = refl
counted-bits (x ∷ xs) fit =
    let rest = counted-bits xs (λ k. fit (suc k)) in
    let one = ones-of x (fit 0).fits in
    let both = sum_by-append (λ (m : Bool). cond m 1 0) (bits_of_byte x) (bits_of xs) in
    omega (arith, sum_by-cons count_ones x xs, rest, one, both)

-- as many as there are indices of them
counted-map : (f : ℕ → Bool) (ks : List ℕ) → counted (map f ks) ≡ count_by f ks
counted-map f [] = refl
counted-map f (k ∷ ks) = omega (arith, counted-map f ks, sum_by-cons (λ (m : Bool). cond m 1 0) (f k) (map f ks), sum_by-cons (λ (j : ℕ). cond (f j) 1 0) k ks)

-- the count is the number of the set bits
pub count-set : (xs : List ℕ) → All (λ x. x < 2 ^ 8) xs → set_count xs ≡ count_by (is_set xs) (range_with_len 0 (8 * length xs))
count-set xs small =
    counted-bits xs fit
    ∙ ap counted (fill_by_all (is_set xs) (bits_of xs) (8 * length xs) false (length-bits xs) (λ k low. bits-at xs k))
    ∙ counted-map (is_set xs) (range_with_len 0 (8 * length xs))
  where
    fit : (k : ℕ) → Fits w8 (get_or xs k 0)
    fit k = record { fits = elim (cases_lt k (length xs)) [ inl low ↦ small k 0 low | inr past ↦ omega (arith, get_or_past xs k 0 past) ] }
