-- A permutation that is known to be there can be found, where equality can be decided.
use Rattle.std.specs.List.{sum_by, remove}
use Rattle.std.proofs.Common.{◌≡◌, ℕ, suc, ◌+◌, ◌<◌, ◌≤◌, Bool, true, false, cond, ◌&&◌, eqb, refl, sym, ap, arith, true≢false, List, [], ◌∷◌, length, get_or, IsPermutation}
use Rattle.std.proofs.lemmas.{Bool.{and_parts, and_from}, List.Sums.{sum_by-cons}}
use Rattle.std.proofs.lemmas.List.Sorted.{IsPermutation-refl, IsPermutation-sym, IsPermutation-trans, IsPermutation-cons, IsPermutation-remove, sum_by-IsPermutation}
use Rattle.std.proofs.Math.Logic.{∥∥₁_elim}
use base.Stored.{Coded, Coded-set, coded_ℕ, Gv, gnil, gnum, gcons}
use Rattle.rm_keeper_sql.proofs.Upsert.{same_number, own_number}

code_same : Gv → Gv → Bool
code_same gnil gnil = true
code_same gnil (gnum n) = false
code_same gnil (gcons c d) = false
code_same (gnum m) gnil = false
code_same (gnum m) (gnum n) = eqb m n
code_same (gnum m) (gcons c d) = false
code_same (gcons a b) gnil = false
code_same (gcons a b) (gnum n) = false
code_same (gcons a b) (gcons c d) = code_same a c && code_same b d

code_told : (a b : Gv) → code_same a b ≡ true → a ≡ b
unfolding code_same
code_told gnil gnil h = refl
code_told gnil (gnum n) h = absurd (true≢false (sym h))
code_told gnil (gcons c d) h = absurd (true≢false (sym h))
code_told (gnum m) gnil h = absurd (true≢false (sym h))
code_told (gnum m) (gnum n) h = ap gnum (same_number m n h)
code_told (gnum m) (gcons c d) h = absurd (true≢false (sym h))
code_told (gcons a b) gnil h = absurd (true≢false (sym h))
code_told (gcons a b) (gnum n) h = absurd (true≢false (sym h))
code_told (gcons a b) (gcons c d) h =
    let parts = and_parts _ _ h in
    let first = code_told a c parts.0 in
    let second = code_told b d parts.1 in
    λ i. gcons (first i) (second i)

code_own : (a : Gv) → code_same a a ≡ true
unfolding code_same
code_own gnil = refl
code_own (gnum n) = own_number n
code_own (gcons a b) = and_from _ _ (code_own a) (code_own b)

module _ {X : Type 0} (coded : Coded X) where
  same : X → X → Bool
  same x y = code_same (coded.code x) (coded.code y)

  same_told : (x y : X) → same x y ≡ true → x ≡ y
  unfolding same
  same_told x y h = coded.inj x y (code_told (coded.code x) (coded.code y) h)

  same_own : (x : X) → same x x ≡ true
  unfolding same
  same_own x = code_own (coded.code x)

  -- 1 for this one, and 0 for another
  one : X → X → ℕ
  one z x = cond (same z x) 1 0

  one_own : (z : X) → one z z ≡ 1
  unfolding one
  one_own z = ap (λ b. cond b 1 0) (same_own z)

  count : X → List X → ℕ
  count z xs = sum_by (one z) xs

  count_cons : (z x : X) (xs : List X) → count z (x ∷ xs) ≡ one z x + count z xs
  unfolding count
  count_cons z x xs = sum_by-cons (one z) x xs

  count_nil : (z : X) → count z [] ≡ 0
  unfolding count
  count_nil z = refl

  counted : (z : X) (xs ys : List X) → IsPermutation xs ys → count z ys ≡ count z xs
  unfolding count
  counted z xs ys h = sum_by-IsPermutation (one z) xs ys h

  found : (z : X) (ys : List X) → 1 ≤ count z ys → (i : ℕ) × (i < length ys) × (z ≡ get_or ys i z)
  unfolding one
  found z [] h = absurd (let none = count_nil z in omega (arith, none, h))
  found z (y ∷ ys) h = go (same z y) refl (found z ys)
    where
      go : (b : Bool) → same z y ≡ b → (1 ≤ count z ys → (i : ℕ) × (i < length ys) × (z ≡ get_or ys i z))
          → (i : ℕ) × (i < length (y ∷ ys)) × (z ≡ get_or (y ∷ ys) i z)
      go true is later = (0, omega arith, same_told z y is)
      go false is later =
          let none : one z y ≡ 0 = ap (λ b. cond b 1 0) is in
          let all = count_cons z y ys in
          let more : 1 ≤ count z ys = omega (arith, none, all, h) in
          let it = later more in
          (suc it.0, omega (arith, it.1), it.2)

  rebuilt : (xs ys : List X) → ((z : X) → count z xs ≡ count z ys) → IsPermutation xs ys
  rebuilt [] [] h = IsPermutation-refl []
  rebuilt [] (y ∷ ys) h =
      absurd (let e = h y in let none = count_nil y in let own = one_own y in let all = count_cons y y ys in omega (arith, e, none, own, all))
  rebuilt (x ∷ xs) ys h =
      let own = one_own x in
      let mine = count_cons x x xs in
      let e = h x in
      let some : 1 ≤ count x ys = omega (arith, own, mine, e) in
      let k = found x ys some in
      let p = IsPermutation-remove ys k.0 x k.1 k.2 in
      let rest = rebuilt xs (remove ys k.0) (λ z.
      let a = count_cons z x xs in
      let b = count_cons z x (remove ys k.0) in
      let c = counted z ys (x ∷ remove ys k.0) p in
      let d = h z in
      omega (arith, a, b, c, d)) in
      IsPermutation-trans _ _ _ (IsPermutation-cons x xs (remove ys k.0) rest) (IsPermutation-sym _ _ p)

  pub permuted : (xs ys : List X) → ∥ IsPermutation xs ys ∥₁ → IsPermutation xs ys
  permuted xs ys h = rebuilt xs ys (λ z. ∥∥₁_elim h (Coded-set coded_ℕ _ _) (λ p. sym (counted z xs ys p)))
