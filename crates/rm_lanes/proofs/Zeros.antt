-- Bytes that are zero, and bytes that have a bit.
use Rattle.std.specs.Int.{trailing_zeros}
use Rattle.std.proofs.Common.{◌≡◌, ◌≢◌, ℕ, ◌+◌, ◌-◌, ◌*◌, ◌<◌, ◌≤◌, ◌^◌, List, take, drop, replicate, slice_index, IsBitSet, ap, sym, ◌∙◌, arith, Fits, w8}
use Rattle.std.proofs.lemmas.{Simd.{get_or-chunk, get_or-replicate}, Nat.{pow_pos, Bits.{bit_at-trailing_zeros, and_pow}}}

-- each byte of a part that is zero is zero
pub zero_at : (n i : ℕ) (xs : List ℕ) → take n (drop i xs) ≡ replicate n 0 → (k : ℕ) → i ≤ k → k < i + n → slice_index xs k ≡ 0
zero_at n i xs e k low high =
    let at : i + (k - i) ≡ k = omega (arith, low) in
    let room : k - i < n = omega (arith, low, high) in
    rw at at (sym (get_or-chunk i n xs (k - i) 0 room) ∙ ap (λ ys. slice_index ys (k - i)) e ∙ get_or-replicate n (k - i) 0 0 room)

-- a byte that is not zero has a bit
pub has_bit : (n : ℕ) → Fits w8 n → n ≢ 0 → ¬ ((j : ℕ) → j < 8 → ¬ IsBitSet n j)
has_bit n fits some none =
    let least = bit_at-trailing_zeros w8 n (omega (arith, some)) fits.fits in
    let j = trailing_zeros w8 n in
    none j least.0 (λ unset. let gone : 1 * 2 ^ j ≡ 0 = rw least.1 at (sym (and_pow n j) ∙ unset) in omega (arith, gone, pow_pos j))
