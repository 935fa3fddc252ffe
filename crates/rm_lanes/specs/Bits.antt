-- Bytes as bits: bit k is bit k mod 8, the least first, of byte k / 8.
use Rattle.std.specs.Prelude.{◌==◌, ◌≤◌, ◌<◌, ◌/◌, ◌%◌, ℕ, Bool, List, [], ◌∷◌, bit_or, count_ones, slice_index, sum_by, IsBitSet}
use Rattle.std.specs.Int.{bit_at}

-- the bitwise or of bytes at the same places
abbrev pub bitwise_or : List ℕ → List ℕ → List ℕ
bitwise_or [] ys = []
bitwise_or (x ∷ xs) [] = []
bitwise_or (x ∷ xs) (y ∷ ys) = bit_or x y ∷ bitwise_or xs ys

-- how many bits are set
abbrev pub set_count : List ℕ → ℕ
set_count bytes = sum_by count_ones bytes

-- bit k is set; past the last byte none is
abbrev pub IsSet : List ℕ → ℕ → Type 0
IsSet bytes k = IsBitSet (slice_index bytes (k / 8)) (k % 8)

-- the same as a test
abbrev pub is_set : List ℕ → ℕ → Bool
is_set bytes k = bit_at (slice_index bytes (k / 8)) (k % 8) == 1

-- k is the least set bit at or above `from`
pub record IsNextSet (bytes : List ℕ) (from k : ℕ) : Type 0 where
  pub set : IsSet bytes k
  pub reached : from ≤ k
  pub least : (j : ℕ) → from ≤ j → j < k → ¬ IsSet bytes j

-- no bit at or above `from` is set
abbrev pub NoneSet : List ℕ → ℕ → Type 0
NoneSet bytes from = (k : ℕ) → from ≤ k → ¬ IsSet bytes k
