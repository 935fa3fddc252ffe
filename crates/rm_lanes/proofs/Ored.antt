-- A list whose first bytes are or-ed with those of another.
use Rattle.std.specs.Simd.Lanes.{zip2, put_chunk, chunk}
use Rattle.std.proofs.Common.{◌≡◌, ℕ, ◌+◌, ◌-◌, ◌<◌, ◌≤◌, List, [], ◌∷◌, length, bit_or, slice_index, ap, sym, ◌∙◌, arith, refl, ◌⊎◌, inl, inr}
use Rattle.std.proofs.lemmas.Simd.{length-zip2, get_or-zip2, get_or-chunk, length-chunk, length-put_chunk, get_or-put_chunk_below, get_or-put_chunk_at, get_or-put_chunk_above}
use Rattle.std.proofs.lemmas.Grind.{same_number_lists}
use Rattle.rm_lanes.specs.Bits.{bitwise_or}

-- the first i bytes are or-ed, and the others are as they were
pub record OredBelow (i : ℕ) (old from new : List ℕ) : Type 0 where
  pub within : i ≤ length old
  pub long : length new ≡ length old
  pub below : (k : ℕ) → k < i → slice_index new k ≡ bit_or (slice_index old k) (slice_index from k)
  pub above : (k : ℕ) → i ≤ k → slice_index new k ≡ slice_index old k

-- the or of lanes is the or of lists
zip2-bitwise_or : (xs ys : List ℕ) → zip2 bit_or xs ys ≡ bitwise_or xs ys
zip2-bitwise_or [] ys = refl
zip2-bitwise_or (x ∷ xs) [] = refl
zip2-bitwise_or (x ∷ xs) (y ∷ ys) = ap (λ zs. bit_or x y ∷ zs) (zip2-bitwise_or xs ys)

-- once all bytes are or-ed, the list is the or of both
pub all_ored : (i : ℕ) (old from new : List ℕ) → length old ≡ length from → length old ≤ i → OredBelow i old from new → new ≡ bitwise_or old from
all_ored i old from new same all h =
    same_number_lists new (zip2 bit_or old from) (h.long ∙ sym (length-zip2 bit_or old from same))
    (λ k low. let room : k < length old = omega (arith, low, h.long) in
    h.below k (omega (arith, room, all)) ∙ sym (get_or-zip2 bit_or old from k 0 0 0 room (omega (arith, room, same))))
    ∙ zip2-bitwise_or old from

-- k is below i, or it is not
pub below_or_not : (k i : ℕ) → (k < i) ⊎ (i ≤ k)
below_or_not k i = grind arith

-- a store of n lanes that are or-ed
pub lanes_ored : (n i : ℕ) (old from new : List ℕ) → length old ≡ length from → i + n ≤ length old → OredBelow i old from new → OredBelow (i + n) old from (put_chunk i new (zip2 bit_or (chunk i n new) (chunk i n from)))
lanes_ored n i old from new same room h =
    let xs = chunk i n new in
    let ys = chunk i n from in
    let lanes = zip2 bit_or xs ys in
    let a : length xs ≡ n = length-chunk i n new (omega (arith, h.long, room)) in
    let b : length ys ≡ n = length-chunk i n from (omega (arith, same, room)) in
    let wide : length lanes ≡ n = length-zip2 bit_or xs ys (a ∙ sym b) ∙ a in
    let fresh : (j : ℕ) → j < n → slice_index (put_chunk i new lanes) (i + j) ≡ bit_or (slice_index old (i + j)) (slice_index from (i + j)) = λ j low.
    get_or-put_chunk_at i new lanes j 0 (omega (arith, wide, low)) (omega (arith, wide, h.long, room))
    ∙ get_or-zip2 bit_or xs ys j 0 0 0 (omega (arith, a, low)) (omega (arith, b, low))
    ∙ rw (get_or-chunk i n new j 0 low, get_or-chunk i n from j 0 low, h.above (i + j) (omega arith)) refl in
    record {
      within = room;
      long = length-put_chunk i new lanes ∙ h.long;
      below = λ k low. elim (below_or_not k i) [
        | inl under ↦ get_or-put_chunk_below i new lanes k 0 under ∙ h.below k under
        | inr over ↦ let at : i + (k - i) ≡ k = omega (arith, over) in rw at at (fresh (k - i) (omega (arith, over, low)))
      ];
      above = λ k high. get_or-put_chunk_above i new lanes k 0 (omega (arith, wide, high)) ∙ h.above k (omega (arith, high));
    }
