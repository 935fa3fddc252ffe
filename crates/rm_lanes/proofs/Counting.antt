-- How many bits are set, by lanes.
use Rattle.std.specs.Simd.Lanes.{Each1, chunk, fold_l, sum_l, Steps}
use Rattle.std.proofs.Common.{◌≡◌, ℕ, ◌+◌, ◌*◌, ◌<◌, ◌≤◌, ◌^◌, List, [], ◌∷◌, map, length, count_ones, take, get_or, take-add, ap, sym, ◌∙◌, arith, refl, Fits, w8, w64}
use Rattle.std.proofs.lemmas.{Simd.{fold-sum, sum_fits, chunk-fits, length-chunk, map-map, Each1-from_get_or}, Nat.{ones-le}}
use Rattle.std.proofs.lemmas.List.Sums.{sum_by-cons, sum_by-append, sum_by-take-le}
use Rattle.rm_lanes.specs.Bits.{set_count}

-- a byte has at most 8 bits
set_count-le : (xs : List ℕ) → Each1 (Fits w8) xs → set_count xs ≤ 8 * length xs
set_count-le [] all = omega arith
set_count-le (x ∷ xs) all = omega (arith, sum_by-cons count_ones x xs, ones-le 8 x all.0.fits, set_count-le xs all.1)

-- the counts of the bytes add up to the count of the bits
sum_l-ones : (xs : List ℕ) → sum_l (map count_ones xs) ≡ set_count xs
sum_l-ones [] = refl
sum_l-ones (x ∷ xs) = ap (λ n. count_ones x + n) (sum_l-ones xs) ∙ sym (sum_by-cons count_ones x xs)

-- the count of each lane
abbrev pub lane_counts : List ℕ → List ℕ
lane_counts xs = map (λ n. n) (map count_ones xs)

-- the same of the lanes' counts
sum_l-counts : (xs : List ℕ) → sum_l (lane_counts xs) ≡ set_count xs
sum_l-counts xs = ap sum_l (map-map (λ n. n) count_ones xs) ∙ sum_l-ones xs

-- the sum of the lanes' counts
abbrev pub lanes_sum : List ℕ → ℕ
lanes_sum xs = fold_l (λ s x. s + x) 0 (lane_counts xs)

-- the sum of the lanes' counts is the count of the bits
lanes_sum-is : (xs : List ℕ) → lanes_sum xs ≡ set_count xs
lanes_sum-is xs = let all = fold-sum 0 (lane_counts xs) in omega (arith, all, sum_l-counts xs)

-- a lane's count fits a byte
pub counts_fit : (xs : List ℕ) → Each1 (Fits w8) xs → Each1 (Fits w8) (map count_ones xs)
counts_fit [] all = all
counts_fit (x ∷ xs) all = (record { fits = omega (arith, ones-le 8 x all.0.fits) }, counts_fit xs all.1)

-- the sum of at most 31 lanes' counts fits a byte at each step
pub sums_fit : (n i : ℕ) (xs : List ℕ) → ((k : ℕ) → Fits w8 (get_or xs k 0)) → n ≤ 31 → i + n ≤ length xs → Steps (λ s x. Fits w8 (s + x)) (λ s x. s + x) 0 (lane_counts (chunk i n xs))
sums_fit n i xs all few room =
    let most = set_count-le (chunk i n xs) (chunk-fits w8 i n xs all) in
    sum_fits w8 0 (lane_counts (chunk i n xs)) (omega (arith, sum_l-counts (chunk i n xs), most, length-chunk i n xs room, few))

-- the count goes on over the n lanes at i
pub set_count-lanes : (n i : ℕ) (xs : List ℕ) → set_count (take i xs) + lanes_sum (chunk i n xs) ≡ set_count (take (i + n) xs)
set_count-lanes n i xs =
    ap (λ m. set_count (take i xs) + m) (lanes_sum-is (chunk i n xs)) ∙ sym (sum_by-append count_ones (take i xs) (chunk i n xs)) ∙ ap set_count (sym (take-add i n xs))

-- the count of no part leaves 64 bits
pub set_count-fits : (i : ℕ) (xs : List ℕ) → ((k : ℕ) → Fits w8 (get_or xs k 0)) → length xs < 2 ^ 61 → Fits w64 (set_count (take i xs))
set_count-fits i xs all few =
    record { fits = omega (arith, sum_by-take-le count_ones xs i, set_count-le xs (Each1-from_get_or (Fits w8) xs 0 (λ k low. all k)), few) }
