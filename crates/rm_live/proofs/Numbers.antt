-- A pass with as many numbers as there are has each.
use Rattle.std.proofs.Common.{◌≡◌, ℕ, zero, suc, ◌+◌, ◌<◌, ◌≤◌, Bool, true, false, List, [], ◌∷◌, length, nat_lt, if◌then◌else◌, nat_eq, refl, ap, ◌∙◌, arith, ltb-true, eq-eqb, ne_eqb}
use mathlib.Core.Logic.{dite}
use native.Mathlib.Decide.{ℕ_discrete}
use Rattle.rm_live.specs.{History.{times}, Passes.{Standing, IsOnly}, Ruled.{AreShares, once_below, one_if, total, upto}}

one_at : ℕ → ℕ → ℕ
one_at x n = if nat_eq n x then 1 else 0

-- a number outside of a run does not stand there, one inside stands there once
absent : (x a k : ℕ) → x < a → total (one_at x) (upto a k) ≡ 0
unfolding one_at
absent x a zero lt = refl
absent x a (suc k) lt = let h = absent x (suc a) k (omega arith) in let e = ne_eqb a x (λ is. omega arith) in rw e (omega arith)

present : (x a k : ℕ) → a ≤ x → x < a + k → total (one_at x) (upto a k) ≡ 1
unfolding one_at
present x a zero le lt = absurd (omega arith)
present x a (suc k) le lt = dite (ℕ_discrete a x)
    (λ is. let h = absent x (suc a) k (omega arith) in let e = eq-eqb a x is in rw e (omega arith))
    (λ ne. let h = present x (suc a) k (omega arith) (omega arith) in let e = ne_eqb a x ne in rw e (omega arith))

more : (x : ℕ) (ns xs : List ℕ) → total (λ n. times n (x ∷ ns)) xs ≡ total (one_at x) xs + total (λ n. times n ns) xs
unfolding one_at
more x ns [] = refl
more x ns (y ∷ ys) = let h = more x ns ys in omega arith

none : (xs : List ℕ) → total (λ n. times n []) xs ≡ 0
none [] = refl
none (x ∷ xs) = let h = none xs in omega arith

-- numbers below p, counted one after another, are as many as the list is long
counted : (ns : List ℕ) (p : ℕ) → AreShares ns p → total (λ n. times n ns) (upto 0 p) ≡ length ns
counted [] p shares = none (upto 0 p)
counted (x ∷ ns) p shares =
    let inside : x < p = is_below (nat_lt x p) refl in
    let h = counted ns p (λ n. let le = shares n in omega arith) in
    let one = present x 0 p (omega arith) (omega arith) in
    let both = more x ns (upto 0 p) in
    omega arith
  where
    is_below : (b : Bool) → nat_lt x p ≡ b → x < p
    is_below true is = ltb-true x p is
    is_below false is =
        let le = shares x in
        let out : once_below x p ≡ 0 = ap one_if is in
        let here : times x (x ∷ ns) ≡ 1 + times x ns = ap (λ (b : Bool). (if b then 1 else 0) + times x ns) (eq-eqb x x refl) in
        absurd (omega arith)

at_most : (f : ℕ → ℕ) → ((n : ℕ) → f n ≤ 1) → (a k : ℕ) → total f (upto a k) ≤ k
at_most f le a zero = omega arith
at_most f le a (suc k) = let h = at_most f le (suc a) k in let here = le a in omega arith

-- k numbers that are at most 1 and add up to k are 1
all_one : (f : ℕ → ℕ) → ((n : ℕ) → f n ≤ 1) → (a k n : ℕ) → total f (upto a k) ≡ k → a ≤ n → n < a + k → f n ≡ 1
all_one f le a zero n is low high = absurd (omega arith)
all_one f le a (suc k) n is low high =
    let rest = at_most f le (suc a) k in
    let here = le a in
    dite (ℕ_discrete n a)
    (λ (e : n ≡ a). ap f e ∙ (let one : f a ≡ 1 = omega arith in one))
    (λ (ne : ¬ (n ≡ a)). all_one f le (suc a) k n (omega arith) (omega arith) (omega arith))

pub is-only : (p : Standing) → AreShares p.numbers p.passes → length p.numbers ≡ p.passes → IsOnly p
is-only p shares all n = go (nat_lt n p.passes) refl
  where
    few : (m : ℕ) → times m p.numbers ≤ 1
    few m = let le = shares m in let k = le_one (nat_lt m p.passes) in omega arith
      where
        le_one : (b : Bool) → one_if b ≤ 1
        le_one true = omega arith
        le_one false = omega arith

    go : (b : Bool) → nat_lt n p.passes ≡ b → times n p.numbers ≡ one_if b
    go true is =
        let lt = ltb-true n p.passes is in
        all_one (λ m. times m p.numbers) few 0 p.passes n (counted p.numbers p.passes shares ∙ all) (omega arith) (omega arith)
    go false is = let le = shares n in let out : once_below n p.passes ≡ 0 = ap one_if is in omega arith
