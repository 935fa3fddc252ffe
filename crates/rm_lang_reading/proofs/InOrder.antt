-- Numbers in order, each once.
use Rattle.std.specs.{Prelude.{nat_lt, eqb}, List.{Contains, dedup, Sorted.{IsPermutation, IsSorted, IsStrictlySortedBy}}}
use Rattle.std.specs.Ordering.{nat_cmp}
use Rattle.std.proofs.Common.{◌≡◌, ◌⊎◌, refl, sym, subst, inl, inr, cond, arith, ◌==◌, ◌<◌, ◌&&◌, ℕ, List, [], ◌∷◌, Bool, true, false}
use Rattle.std.proofs.lemmas.Bool.{and_parts, and_from, eqb-true, Decides.{nat_tests}}
use Rattle.std.proofs.lemmas.List.Elements.{Contains-append_left, Contains-append_right, Contains-append_cases, Contains-push, Contains-push_cases}
use Rattle.std.proofs.lemmas.List.{Kept.{Contains-dedup_nat, Contains-from_dedup}, Sorted.{Contains-permutation, IsPermutation-sym}}
use Rattle.std.proofs.lemmas.Map.Keys.{IsStrictlyIncreasing-dedup, sorted_from_strictly_increasing, sorted_tail, below_from_sorted}
use Rattle.rm_lang_grammar.specs.Spelling.{is_some_list}
use Rattle.rm_lang_statement.specs.Named.{placed, in_order, ascend_above, are_named}

-- x is one of the numbers
abbrev Has : List ℕ → ℕ → Type 0
Has [] x = ⊥
Has (n ∷ ns) x = (n ≡ x) ⊎ Has ns x

-- each number is below the next
abbrev ascends : List ℕ → Bool
ascends [] = true
ascends (n ∷ ns) = ascend_above n ns

ascends-tail : (n : ℕ) (ns : List ℕ) → ascend_above n ns ≡ true → ascends ns ≡ true
ascends-tail n [] a = refl
ascends-tail n (m ∷ ms) a = (and_parts (nat_lt n m) (ascend_above m ms) a).1

below : (m n : ℕ) → nat_lt m n ≡ true → m < n
below m n h = grind (arith, nat_tests)

above : (k : ℕ) (ns : List ℕ) (x : ℕ) → ascend_above k ns ≡ true → Has ns x → k < x
above k [] x a h = absurd h
above k (m ∷ ms) x a (inl e) = let first = below k m (and_parts (nat_lt k m) (ascend_above m ms) a).0 in omega (arith, e)
above k (m ∷ ms) x a (inr h) =
    let parts = and_parts (nat_lt k m) (ascend_above m ms) a in
    let first = below k m parts.0 in
    let later = above m ms x parts.1 h in omega arith

-- ascending lists with the same numbers are the same
heads : (x y : ℕ) (xs ys : List ℕ) → ascend_above x xs ≡ true → ascend_above y ys ≡ true → Has (y ∷ ys) x → Has (x ∷ xs) y → x ≡ y
heads x y xs ys a b (inl e) k = sym e
heads x y xs ys a b (inr h) (inl e) = e
heads x y xs ys a b (inr h) (inr k) =
    let up = above y ys x b h in
    let down = above x xs y a k in absurd (omega arith)

behind : (y z : ℕ) (ys : List ℕ) → y < z → Has (y ∷ ys) z → Has ys z
behind y z ys l (inl e) = absurd (omega (arith, e))
behind y z ys l (inr h) = h

same : (xs ys : List ℕ) → ascends xs ≡ true → ascends ys ≡ true → ((z : ℕ) → Has xs z → Has ys z) → ((z : ℕ) → Has ys z → Has xs z) → xs ≡ ys
same [] [] a b f g = refl
same [] (y ∷ ys) a b f g = absurd (g y (inl refl))
same (x ∷ xs) [] a b f g = absurd (f x (inl refl))
same (x ∷ xs) (y ∷ ys) a b f g =
    let first = heads x y xs ys a b (f x (inl refl)) (g y (inl refl)) in
    let to = λ (z : ℕ) (h : Has xs z). behind y z ys (subst (λ k. k < z) first (above x xs z a h)) (f z (inr h)) in
    let from = λ (z : ℕ) (h : Has ys z). behind x z xs (subst (λ k. k < z) (sym first) (above y ys z b h)) (g z (inr h)) in
    let rest = same xs ys (ascends-tail x xs a) (ascends-tail y ys b) to from in cc

-- the three places of a number: before, at, and behind the first of the others
abbrev placed_by : Bool → Bool → ℕ → ℕ → List ℕ → List ℕ
placed_by less equal n m ms = cond less (n ∷ m ∷ ms) (cond equal (m ∷ ms) (m ∷ placed n ms))

swapped : (n m : ℕ) (ms : List ℕ) (x : ℕ) → Has (n ∷ ms) x → Has (n ∷ m ∷ ms) x
swapped n m ms x (inl e) = inl e
swapped n m ms x (inr h) = inr (inr h)

placed_by-has : (less equal : Bool) (n m : ℕ) (ms : List ℕ) (x : ℕ) → (Has (placed n ms) x → Has (n ∷ ms) x) → Has (placed_by less equal n m ms) x → Has (n ∷ m ∷ ms) x
placed_by-has true equal n m ms x go h = h
placed_by-has false true n m ms x go h = inr h
placed_by-has false false n m ms x go (inl e) = inr (inl e)
placed_by-has false false n m ms x go (inr h) = swapped n m ms x (go h)

placed-has : (n : ℕ) (ms : List ℕ) (x : ℕ) → Has (placed n ms) x → Has (n ∷ ms) x
placed-has n [] x h = h
placed-has n (m ∷ ms) x h = placed_by-has (nat_lt n m) (n == m) n m ms x (λ k. placed-has n ms x k) h

has-placed_by : (less equal : Bool) (n m : ℕ) (ms : List ℕ) (x : ℕ) → (n == m) ≡ equal → (Has (n ∷ ms) x → Has (placed n ms) x) → Has (n ∷ m ∷ ms) x → Has (placed_by less equal n m ms) x
has-placed_by true equal n m ms x t go h = h
has-placed_by false true n m ms x t go (inl e) = inl (subst (λ k. k ≡ x) (eqb-true n m t) e)
has-placed_by false true n m ms x t go (inr h) = h
has-placed_by false false n m ms x t go (inl e) = inr (go (inl e))
has-placed_by false false n m ms x t go (inr (inl e)) = inl e
has-placed_by false false n m ms x t go (inr (inr h)) = inr (go (inr h))

has-placed : (n : ℕ) (ms : List ℕ) (x : ℕ) → Has (n ∷ ms) x → Has (placed n ms) x
has-placed n [] x h = h
has-placed n (m ∷ ms) x h = has-placed_by (nat_lt n m) (n == m) n m ms x refl (λ k. has-placed n ms x k) h

more : (n : ℕ) (ms ns : List ℕ) (x : ℕ) → (Has ms x → Has ns x) → Has (n ∷ ms) x → Has (n ∷ ns) x
more n ms ns x go (inl e) = inl e
more n ms ns x go (inr h) = inr (go h)

in_order-has : (ns : List ℕ) (x : ℕ) → Has (in_order ns) x → Has ns x
in_order-has [] x h = h
in_order-has (n ∷ ns) x h = more n (in_order ns) ns x (λ k. in_order-has ns x k) (placed-has n (in_order ns) x h)

has-in_order : (ns : List ℕ) (x : ℕ) → Has ns x → Has (in_order ns) x
has-in_order [] x h = h
has-in_order (n ∷ ns) x h = has-placed n (in_order ns) x (more n ns (in_order ns) x (λ k. has-in_order ns x k) h)

last_place : (n m : ℕ) → nat_lt n m ≡ false → (n == m) ≡ false → nat_lt m n ≡ true
last_place n m h k = grind (arith, nat_tests)

placed_by-above : (less equal : Bool) (k n m : ℕ) (ms : List ℕ) → nat_lt n m ≡ less → (n == m) ≡ equal → nat_lt k n ≡ true → ascend_above k (m ∷ ms) ≡ true
    → (nat_lt m n ≡ true → ascend_above m (placed n ms) ≡ true) → ascend_above k (placed_by less equal n m ms) ≡ true
placed_by-above true equal k n m ms l e h a go =
    let parts = and_parts (nat_lt k m) (ascend_above m ms) a in
    and_from (nat_lt k n) (nat_lt n m && ascend_above m ms) h (and_from (nat_lt n m) (ascend_above m ms) l parts.1)
placed_by-above false true k n m ms l e h a go = a
placed_by-above false false k n m ms l e h a go =
    and_from (nat_lt k m) (ascend_above m (placed n ms)) (and_parts (nat_lt k m) (ascend_above m ms) a).0 (go (last_place n m l e))

placed-above : (k n : ℕ) (ms : List ℕ) → nat_lt k n ≡ true → ascend_above k ms ≡ true → ascend_above k (placed n ms) ≡ true
placed-above k n [] h a = and_from (nat_lt k n) true h refl
placed-above k n (m ∷ ms) h a =
    placed_by-above (nat_lt n m) (n == m) k n m ms refl refl h a
    (λ l. placed-above m n ms l (and_parts (nat_lt k m) (ascend_above m ms) a).1)

placed_by-named : (less equal : Bool) (n m : ℕ) (ms : List ℕ) → nat_lt n m ≡ less → (n == m) ≡ equal → ascend_above m ms ≡ true → are_named (placed_by less equal n m ms) ≡ true
placed_by-named true equal n m ms l e a = and_from (nat_lt n m) (ascend_above m ms) l a
placed_by-named false true n m ms l e a = a
placed_by-named false false n m ms l e a = placed-above m n ms (last_place n m l e) a

placed-named : (n : ℕ) (ms : List ℕ) → ascends ms ≡ true → are_named (placed n ms) ≡ true
placed-named n [] a = refl
placed-named n (m ∷ ms) a = placed_by-named (nat_lt n m) (n == m) n m ms refl refl a

named-ascend : (ns : List ℕ) → are_named ns ≡ true → ascends ns ≡ true
named-ascend [] h = refl
named-ascend (n ∷ ns) h = h

in_order-ascends : (ns : List ℕ) → ascends (in_order ns) ≡ true
in_order-ascends [] = refl
in_order-ascends (n ∷ ns) = named-ascend (placed n (in_order ns)) (placed-named n (in_order ns) (in_order-ascends ns))

-- some numbers in order are ascending, and there is one
pub in_order-named : (ns : List ℕ) → is_some_list ns ≡ true → are_named (in_order ns) ≡ true
in_order-named [] h = absurd (cc)
in_order-named (n ∷ ns) h = placed-named n (in_order ns) (in_order-ascends ns)

-- the numbers of a list, in order, are any ascending list that has the same
in_order-is : (ns ms : List ℕ) → ascends ms ≡ true → ((x : ℕ) → Has ms x → Has ns x) → ((x : ℕ) → Has ns x → Has ms x) → ms ≡ in_order ns
in_order-is ns ms a f g = same ms (in_order ns) a (in_order-ascends ns) (λ x h. has-in_order ns x (f x h)) (λ x h. g x (in_order-has ns x h))

-- what is in order stays as it is
pub named-in_order : (ns : List ℕ) → are_named ns ≡ true → in_order ns ≡ ns
named-in_order ns h = sym (in_order-is ns ns (named-ascend ns h) (λ x k. k) (λ x k. k))

contained : (n x : ℕ) → Contains [] x ⊎ (n ≡ x) → (ns : List ℕ) → Has (n ∷ ns) x
contained n x (inl h) ns = absurd (omega (arith, h.1))
contained n x (inr e) ns = inl e

contains-first : (n x : ℕ) (ns : List ℕ) → (Contains ns x → Has ns x) → Contains (n ∷ []) x ⊎ Contains ns x → Has (n ∷ ns) x
contains-first n x ns go (inl h) = contained n x (Contains-push_cases [] n x h) ns
contains-first n x ns go (inr h) = inr (go h)

contains-has : (ns : List ℕ) (x : ℕ) → Contains ns x → Has ns x
contains-has [] x h = absurd (omega (arith, h.1))
contains-has (n ∷ ns) x h = contains-first n x ns (λ k. contains-has ns x k) (Contains-append_cases (n ∷ []) ns x h)

has-contains : (ns : List ℕ) (x : ℕ) → Has ns x → Contains ns x
has-contains [] x h = absurd h
has-contains (n ∷ ns) x (inl e) = Contains-append_left (n ∷ []) ns x (subst (λ k. Contains (n ∷ []) k) e (Contains-push [] n))
has-contains (n ∷ ns) x (inr h) = Contains-append_right (n ∷ []) ns x (has-contains ns x h)

sorted-ascends : (ns : List ℕ) → IsStrictlySortedBy nat_cmp ns → ascends ns ≡ true
sorted-ascends [] h = refl
sorted-ascends (n ∷ []) h = refl
sorted-ascends (n ∷ m ∷ ms) h =
    let first : n < m = below_from_sorted (n ∷ m ∷ ms) 0 1 0 h (omega arith) (omega arith) in
    let test : nat_lt n m ≡ true = grind (arith, nat_tests) in
    and_from (nat_lt n m) (ascend_above m ms) test (sorted-ascends (m ∷ ms) (sorted_tail nat_cmp n (m ∷ ms) h))

-- sorted, and without what stands twice
pub in_order-sorted : (ns ms : List ℕ) → IsPermutation ns ms → IsSorted nat_cmp ms → dedup eqb ms ≡ in_order ns
in_order-sorted ns ms moved up =
    let rises = sorted_from_strictly_increasing (dedup eqb ms) (IsStrictlyIncreasing-dedup ms up) in
    let back = IsPermutation-sym ns ms moved in
    in_order-is ns (dedup eqb ms) (sorted-ascends (dedup eqb ms) rises)
    (λ x h. contains-has ns x (Contains-permutation ms ns x back (Contains-from_dedup eqb ms x (has-contains (dedup eqb ms) x h))))
    (λ x h. contains-has (dedup eqb ms) x (Contains-dedup_nat ms x (Contains-permutation ns ms x moved (has-contains ns x h))))
