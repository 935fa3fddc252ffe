-- What `==` of two vectors of bytes tells.
use Rattle.std.specs.Simd.Lanes.{zip2, mask_l, top}
use Rattle.std.proofs.Common.{◌≡◌, ℕ, ◌-◌, ◌≤◌, ◌%◌, ◌^◌, List, [], ◌∷◌, Bool, cond, not, map, length, eqb, ap, sym, ◌∙◌, arith, refl, eqb-true, eq-eqb, inl, inr, w8, IsTrue, nat_eq, ◌↔◌}
use Rattle.std.proofs.lemmas.{Simd.{tops_compared, mask_l-mod, length-zip2}, Bool.{cases_Bool}}

-- whether two bytes differ
abbrev differ : ℕ → ℕ → Bool
differ x y = not (eqb x y)

-- the mask of the lanes that differ, as `==` makes it
abbrev pub mask_of : List ℕ → List ℕ → ℕ
mask_of xs ys = mask_l (map (top 7) (zip2 (λ a b. cond (differ a b) (2 ^ 8 - 1) 0) xs ys)) % 2 ^ 64

-- where no lane differs, the lists are equal
no_lane_differs : (xs ys : List ℕ) → length xs ≡ length ys → mask_l (zip2 differ xs ys) ≡ 0 → xs ≡ ys
no_lane_differs [] [] e h = refl
no_lane_differs [] (y ∷ ys) e h = absurd (omega (arith, e))
no_lane_differs (x ∷ xs) [] e h = absurd (omega (arith, e))
no_lane_differs (x ∷ xs) (y ∷ ys) e h = elim (cases_Bool (eqb x y)) [
  | inl met ↦ let rest : mask_l (zip2 differ xs ys) ≡ 0 = omega (arith, rw met at h) in
      ap (λ z. z ∷ xs) (eqb-true x y met) ∙ ap (λ zs. y ∷ zs) (no_lane_differs xs ys (omega (arith, e)) rest)
  | inr unmet ↦ absurd (omega (arith, rw unmet at h))
]

-- a list differs from itself in no lane
same_lanes : (xs : List ℕ) → mask_l (zip2 differ xs xs) ≡ 0
same_lanes [] = refl
same_lanes (x ∷ xs) = rw (eq-eqb x x refl, same_lanes xs) refl

-- up to 64 lanes, the mask is zero exactly where the lists are equal
pub mask_of-zero : (n : ℕ) (xs ys : List ℕ) → length xs ≡ n → length ys ≡ n → n ≤ 64 → IsTrue (nat_eq (mask_of xs ys) 0) ↔ (xs ≡ ys)
mask_of-zero n xs ys a b few =
    let wide = length-zip2 differ xs ys (a ∙ sym b) in
    let is : mask_of xs ys ≡ mask_l (zip2 differ xs ys) = rw (tops_compared w8 differ xs ys) (mask_l-mod (zip2 differ xs ys) 64 (omega (arith, wide, a, few))) in
    ((λ t. no_lane_differs xs ys (a ∙ sym b) (sym is ∙ eqb-true (mask_of xs ys) 0 t)), (λ e. eq-eqb (mask_of xs ys) 0 (is ∙ rw (← e) (same_lanes xs))))
