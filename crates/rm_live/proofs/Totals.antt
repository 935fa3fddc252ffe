-- Sums over views, beginnings of a list, and the numbers of events.
use Rattle.std.proofs.Common.{append-nil, ◌≡◌, ◌≢◌, ℕ, zero, suc, ◌+◌, ◌<◌, ◌≤◌, Bool, true, false, List, [], ◌∷◌, ◌++◌, length, set, nat_lt, refl, sym, ap, ◌∙◌, subst, arith, append_assoc, length-append, ne_eqb, eq-eqb, ltb-true, ltb-false, take, drop, take-append-drop}
use mathlib.Core.Option.{some, some-ne-none, some-injective}
use lib.ListN.{get_elem?}
use Rattle.rm_live.specs.{Parts.{Parts}, History.{IsRight, after, IsLegal, fold_of, times, Foreign, Past}, declared.history.Event.{Event}}
use mathlib.Core.Logic.{dite}
use native.Mathlib.Decide.{ℕ_discrete}
use Rattle.rm_live.specs.Ruled.{total, Below, upto, once_below, one_if}

pub total_set : {A : Type 0} (f : A → ℕ) (views : List A) (i : ℕ) (v w : A) → get_elem? views i ≡ some v → total f (set views i w) + f v ≡ total f views + f w
total_set f [] i v w at = absurd (some-ne-none v (sym at))
total_set f (x ∷ xs) zero v w at = let e : f x ≡ f v = ap f (some-injective x v at) in omega arith
total_set f (x ∷ xs) (suc i) v w at = let h = total_set f xs i v w at in omega arith

-- a change that f does not see
pub total_same : {A : Type 0} (f : A → ℕ) (views : List A) (i : ℕ) (v w : A) → get_elem? views i ≡ some v → f w ≡ f v → total f (set views i w) ≡ total f views
total_same f views i v w at e = let h = total_set f views i v w at in omega arith

pub total_snoc : {A : Type 0} (f : A → ℕ) (views : List A) (w : A) → total f (views ++ w ∷ []) ≡ total f views + f w
total_snoc f [] w = omega arith
total_snoc f (x ∷ xs) w = let h = total_snoc f xs w in omega arith

pub total_one : {A : Type 0} (f : A → ℕ) (views : List A) (i : ℕ) (v : A) → get_elem? views i ≡ some v → f v ≤ total f views
total_one f [] i v at = absurd (some-ne-none v (sym at))
total_one f (x ∷ xs) zero v at = let e : f x ≡ f v = ap f (some-injective x v at) in omega arith
total_one f (x ∷ xs) (suc i) v at = let h = total_one f xs i v at in omega arith

pub total_two : {A : Type 0} (f : A → ℕ) (views : List A) (i j : ℕ) (v w : A) → i ≢ j → get_elem? views i ≡ some v → get_elem? views j ≡ some w → f v + f w ≤ total f views
total_two f [] i j v w apart at at' = absurd (some-ne-none v (sym at))
total_two f (x ∷ xs) zero zero v w apart at at' = absurd (apart refl)
total_two f (x ∷ xs) zero (suc j) v w apart at at' = let e : f x ≡ f v = ap f (some-injective x v at) in let h = total_one f xs j w at' in omega arith
total_two f (x ∷ xs) (suc i) zero v w apart at at' = let e : f x ≡ f w = ap f (some-injective x w at') in let h = total_one f xs i v at in omega arith
total_two f (x ∷ xs) (suc i) (suc j) v w apart at at' = let h = total_two f xs i j v w (λ e. apart (ap suc e)) at at' in omega arith

pub total_le : {A : Type 0} (f g : A → ℕ) (views : List A) → ((i : ℕ) (v : A) → get_elem? views i ≡ some v → f v ≤ g v) → total f views ≤ total g views
total_le f g [] le = omega arith
total_le f g (x ∷ xs) le = let h = total_le f g xs (λ i v at. le (suc i) v at) in let k = le 0 x refl in omega arith

pub legal_snoc : (o : Parts) (log : List Event) (e : Event) → IsLegal o log → IsRight (fold_of o log) e.call e.answer → IsLegal o (log ++ e ∷ [])
legal_snoc o [] e legal right = (right, tt)
legal_snoc o (x ∷ xs) e legal right = (legal.0, legal_snoc (after o x.call x.answer) xs e legal.1 right)

pub fold_snoc : (o : Parts) (log : List Event) (e : Event) → fold_of o (log ++ e ∷ []) ≡ after (fold_of o log) e.call e.answer
fold_snoc o [] e = refl
fold_snoc o (x ∷ xs) e = fold_snoc (after o x.call x.answer) xs e

pub below_snoc : (n : ℕ) (log : List Event) (e : Event) → Below n log → e.by < n → Below n (log ++ e ∷ [])
below_snoc n [] e b lt = (lt, tt)
below_snoc n (x ∷ xs) e b lt = (b.0, below_snoc n xs e b.1 lt)

pub foreign_snoc : (ns : List ℕ) (log : List Event) (e : Event) → Foreign ns log → times e.by ns ≡ 0 → Foreign ns (log ++ e ∷ [])
foreign_snoc ns [] e f free = (free, tt)
foreign_snoc ns (x ∷ xs) e f free = (f.0, foreign_snoc ns xs e f.1 free)

-- no event bears no number
pub foreign_none : (log : List Event) → Foreign [] log
foreign_none [] = tt
foreign_none (x ∷ xs) = (refl, foreign_none xs)

pub past_none : (log : List Event) → Past [] [] log
past_none log = (log, refl, foreign_none log)

pub past_self : (ns : List ℕ) (log : List Event) → Past ns log log
past_self ns log = ([], sym (append-nil log), tt)

-- the history grows by an event of another
pub past_snoc : (ns : List ℕ) (seen log : List Event) (e : Event) → Past ns seen log → times e.by ns ≡ 0 → Past ns seen (log ++ e ∷ [])
past_snoc ns seen log e p free = (p.0 ++ e ∷ [], ap (λ l. l ++ e ∷ []) p.1 ∙ append_assoc seen p.0 (e ∷ []), foreign_snoc ns p.0 e p.2 free)

pub past_length : (ns : List ℕ) (seen log : List Event) → Past ns seen log → length seen ≤ length log
past_length ns seen log p = omega (arith, ap length p.1, length-append seen p.0)

pub total_only : {A : Type 0} (f : A → ℕ) (views : List A) (i : ℕ) (v : A) → get_elem? views i ≡ some v → ((j : ℕ) (u : A) → j ≢ i → get_elem? views j ≡ some u → f u ≡ 0) → total f views ≡ f v
total_only f [] i v at others = absurd (some-ne-none v (sym at))
total_only f (x ∷ xs) zero v at others = let e : f x ≡ f v = ap f (some-injective x v at) in let z = total_none f xs (λ j u there. others (suc j) u (λ is. omega arith) there) in omega arith
  where
    total_none : {A : Type 0} (f : A → ℕ) (views : List A) → ((j : ℕ) (u : A) → get_elem? views j ≡ some u → f u ≡ 0) → total f views ≡ 0
    total_none f [] all = refl
    total_none f (x ∷ xs) all = let h = total_none f xs (λ j u there. all (suc j) u there) in let k = all 0 x refl in omega arith
total_only f (x ∷ xs) (suc i) v at others = let h = total_only f xs i v at (λ j u ne there. others (suc j) u (λ is. ne (omega arith)) there) in let k = others 0 x (λ is. omega arith) refl in omega arith

pub length_upto : (a k : ℕ) → length (upto a k) ≡ k
length_upto a zero = refl
length_upto a (suc k) = ap suc (length_upto (suc a) k)

pub times_below : (n a k : ℕ) → n < a → times n (upto a k) ≡ 0
times_below n a zero lt = refl
times_below n a (suc k) lt = let h = times_below n (suc a) k (omega arith) in let e = ne_eqb n a (λ is. omega arith) in rw e (omega arith)

pub times_above : (n a k : ℕ) → a + k ≤ n → times n (upto a k) ≡ 0
times_above n a zero le = refl
times_above n a (suc k) le = let h = times_above n (suc a) k (omega arith) in let e = ne_eqb n a (λ is. omega arith) in rw e (omega arith)

pub times_within : (n a k : ℕ) → a ≤ n → n < a + k → times n (upto a k) ≡ 1
times_within n a zero le lt = absurd (omega arith)
times_within n a (suc k) le lt = dite (ℕ_discrete n a)
    (λ is. let h = times_below n (suc a) k (omega arith) in let e = eq-eqb n a is in rw e (omega arith))
    (λ ne. let h = times_within n (suc a) k (omega arith) (omega arith) in let e = ne_eqb n a ne in rw e (omega arith))

pub times_upto : (n k : ℕ) → times n (upto 0 k) ≡ once_below n k
times_upto n k = go (nat_lt n k) refl
  where
    go : (b : Bool) → nat_lt n k ≡ b → times n (upto 0 k) ≡ one_if b
    go true is = let lt = ltb-true n k is in times_within n 0 k (omega arith) (omega arith)
    go false is = let le = ltb-false n k is in times_above n 0 k (omega arith)

pub below_rest : (n : ℕ) (seen rest : List Event) → Below n (seen ++ rest) → Below n rest
below_rest n [] rest b = b
below_rest n (x ∷ xs) rest b = below_rest n xs rest b.1

pub times_append : (n : ℕ) (xs ys : List ℕ) → times n (xs ++ ys) ≡ times n xs + times n ys
times_append n [] ys = omega arith
times_append n (x ∷ xs) ys = let h = times_append n xs ys in omega arith

pub times_split : (n k : ℕ) (ns : List ℕ) → times n (take k ns) + times n (drop k ns) ≡ times n ns
times_split n k ns = sym (times_append n (take k ns) (drop k ns)) ∙ ap (times n) (take-append-drop k ns)

pub foreign_less : (ms ns : List ℕ) (rest : List Event) → ((n : ℕ) → times n ms ≤ times n ns) → Foreign ns rest → Foreign ms rest
foreign_less ms ns [] le f = tt
foreign_less ms ns (e ∷ es) le f = ((let k = le e.by in let z = f.0 in omega arith), foreign_less ms ns es le f.1)

pub foreign_both : (ns ms : List ℕ) (rest : List Event) → Foreign ns rest → Foreign ms rest → Foreign (ns ++ ms) rest
foreign_both ns ms [] f g = tt
foreign_both ns ms (e ∷ es) f g = ((let k = times_append e.by ns ms in let z = f.0 in let y = g.0 in omega arith), foreign_both ns ms es f.1 g.1)

pub foreign_tail : (ns : List ℕ) (xs ys : List Event) → Foreign ns (xs ++ ys) → Foreign ns ys
foreign_tail ns [] ys f = f
foreign_tail ns (x ∷ xs) ys f = foreign_tail ns xs ys f.1

pub foreign_front : (ns : List ℕ) (xs ys : List Event) → Foreign ns (xs ++ ys) → Foreign ns xs
foreign_front ns [] ys f = tt
foreign_front ns (x ∷ xs) ys f = (f.0, foreign_front ns xs ys f.1)

-- of two beginnings a and b of one list, a no longer than b: what follows a goes on to b
pub between : (a ra b rb : List Event) → a ++ ra ≡ b ++ rb → length a ≤ length b → (r : List Event) × (b ≡ a ++ r) × (ra ≡ r ++ rb)
between [] ra b rb e le = (b, refl, e)
between (x ∷ a) ra [] rb e le = absurd (omega arith)
between (x ∷ a) ra (y ∷ b) rb e le = let tails : a ++ ra ≡ b ++ rb = cc e in let heads : y ≡ x = cc e in let h = between a ra b rb tails (omega arith) in (h.0, (λ i. heads i ∷ h.1 i), h.2)

-- then b is past a too, and the history is past b as far as it is past a
pub past_within : (ns ms : List ℕ) (a b log : List Event) → Past ns a log → Past ms b log → length a ≤ length b → Past ns a b × Past ns b log
past_within ns ms a b log p q le =
    let h = between a p.0 b q.0 (sym p.1 ∙ q.1) le in
    let all : Foreign ns (h.0 ++ q.0) = subst (Foreign ns) h.2 p.2 in
    ((h.0, h.1, foreign_front ns h.0 q.0 all), (q.0, q.1, foreign_tail ns h.0 q.0 all))
