-- What events did that bear some numbers.
use Rattle.std.proofs.Common.{◌≡◌, ℕ, ◌+◌, ◌<◌, ◌≤◌, ◌⊎◌, inl, inr, Bool, true, false, List, [], ◌∷◌, ◌++◌, length, filter, map, nat_lt, if◌then◌else◌, refl, sym, ap, ◌∙◌, arith, append-nil, lt-ltb, ltb-true, ltb-false, eq-eqb}
use Rattle.rm_live.specs.{History.{times, Foreign}, Passes.{first_of}, Ruled.{AreShares, Below, once_below, one_if, total}}
use Rattle.rm_live.{specs.declared.history.Event.{Event}, proofs.Totals.{times_append}}
use Rattle.rm_channel.specs.{Jobs.{Deed}, Made.{deed, mine}}

pub total-append : {X : Type 0} (h : X → ℕ) (xs ys : List X) → total h (xs ++ ys) ≡ total h xs + total h ys
total-append h [] ys = omega arith
total-append h (x ∷ xs) ys = let e = total-append h xs ys in omega arith

if-append : (b : Bool) (d : Deed) (xs ys : List Deed) → (if b then d ∷ (xs ++ ys) else (xs ++ ys)) ≡ (if b then d ∷ xs else xs) ++ ys
if-append true d xs ys = refl
if-append false d xs ys = refl

pub mine-append : (ns : List ℕ) (xs ys : List Event) → mine ns (xs ++ ys) ≡ mine ns xs ++ mine ns ys
mine-append ns [] ys = refl
mine-append ns (x ∷ xs) ys =
    let b = nat_lt 0 (times x.by ns) in
    ap (λ (l : List Deed). if nat_lt 0 (times x.by ns) then deed x ∷ l else l) (mine-append ns xs ys)
    ∙ if-append b (deed x) (mine ns xs) (mine ns ys)

pub mine-foreign : (ns : List ℕ) (xs : List Event) → Foreign ns xs → mine ns xs ≡ []
mine-foreign ns [] free = refl
mine-foreign ns (x ∷ xs) free =
    ap (λ (k : ℕ). if nat_lt 0 k then deed x ∷ mine ns xs else mine ns xs) free.0 ∙ mine-foreign ns xs free.1

-- an event that bears one of them
pub mine-one : (ns : List ℕ) (x : Event) → 0 < times x.by ns → mine ns (x ∷ []) ≡ deed x ∷ []
mine-one ns x has = ap (λ (b : Bool). if b then deed x ∷ [] else []) (lt-ltb 0 (times x.by ns) has)

pub first-times : (ns : List ℕ) → 0 < length ns → 0 < times (first_of ns) ns
first-times [] h = absurd (omega arith)
first-times (n ∷ ns) h = let e = eq-eqb n n refl in rw e (omega arith)

-- numbers of two passes that were one
times-both : (ns ms : List ℕ) (p n : ℕ) → AreShares (ns ++ ms) p → times n ns + times n ms ≤ 1
times-both ns ms p n shares =
    let all = shares n in
    let sum = times_append n ns ms in
    let one = le_one (nat_lt n p) in
    omega arith
  where
    le_one : (b : Bool) → one_if b ≤ 1
    le_one true = omega arith
    le_one false = omega arith

-- how an event counts for both, for the first and for the second
pub data Whose (both first second : Bool) : Type 0 where
  firsts : both ≡ true → first ≡ true → second ≡ false → Whose both first second
  seconds : both ≡ true → first ≡ false → second ≡ true → Whose both first second
  nobodys : both ≡ false → first ≡ false → second ≡ false → Whose both first second

whose-by : (a b c : ℕ) → c ≡ a + b → a + b ≤ 1 → (x y : Bool) → nat_lt 0 a ≡ x → nat_lt 0 b ≡ y → Whose (nat_lt 0 c) (nat_lt 0 a) (nat_lt 0 b)
whose-by a b c sum le true true is is' = let p = ltb-true 0 a is in let q = ltb-true 0 b is' in absurd (omega arith)
whose-by a b c sum le true false is is' = let p = ltb-true 0 a is in firsts (lt-ltb 0 c (omega arith)) is is'
whose-by a b c sum le false true is is' = let q = ltb-true 0 b is' in seconds (lt-ltb 0 c (omega arith)) is is'
whose-by a b c sum le false false is is' =
    let p = ltb-false 0 a is in
    let q = ltb-false 0 b is' in
    let none : c ≡ 0 = omega arith in
    nobodys (ap (nat_lt 0) none) is is'

pub whose : (ns ms : List ℕ) (p n : ℕ) → AreShares (ns ++ ms) p → Whose (nat_lt 0 (times n (ns ++ ms))) (nat_lt 0 (times n ns)) (nat_lt 0 (times n ms))
whose ns ms p n shares =
    whose-by (times n ns) (times n ms) (times n (ns ++ ms)) (times_append n ns ms) (times-both ns ms p n shares) (nat_lt 0 (times n ns)) (nat_lt 0 (times n ms)) refl refl

total-step : (h : Deed → ℕ) (d : Deed) (xs ys zs : List Deed) (a b c : Bool) → Whose a b c → total h xs ≡ total h ys + total h zs
    → total h (if a then d ∷ xs else xs) ≡ total h (if b then d ∷ ys else ys) + total h (if c then d ∷ zs else zs)
total-step h d xs ys zs a b c (firsts x y z) ih = rw (x, y, z) (omega arith)
total-step h d xs ys zs a b c (seconds x y z) ih = rw (x, y, z) (omega arith)
total-step h d xs ys zs a b c (nobodys x y z) ih = rw (x, y, z) ih

-- what both did counts as much as what each did
pub total-both : (h : Deed → ℕ) (ns ms : List ℕ) (p : ℕ) (es : List Event) → AreShares (ns ++ ms) p → total h (mine (ns ++ ms) es) ≡ total h (mine ns es) + total h (mine ms es)
total-both h ns ms p [] shares = refl
total-both h ns ms p (e ∷ es) shares =
    total-step h (deed e) (mine (ns ++ ms) es) (mine ns es) (mine ms es) (nat_lt 0 (times e.by (ns ++ ms))) (nat_lt 0 (times e.by ns)) (nat_lt 0 (times e.by ms))
    (whose ns ms p e.by shares) (total-both h ns ms p es shares)

-- one deed more, where those that pass f are all of one side
cons-first : (f : Deed → Bool) (b : Bool) (d : Deed) (xs ys : List Deed) → filter f xs ≡ filter f ys → (if b then d ∷ filter f xs else filter f xs) ≡ (if b then d ∷ filter f ys else filter f ys)
cons-first f b d xs ys e = ap (λ (l : List Deed). if b then d ∷ l else l) e

tail-none : (f : Deed → Bool) (b : Bool) (d : Deed) (xs : List Deed) → (if b then d ∷ filter f xs else filter f xs) ≡ [] → filter f xs ≡ []
tail-none f true d xs e = absurd (cc e)
tail-none f false d xs e = e

head-none : (f : Deed → Bool) (b : Bool) (d : Deed) (xs : List Deed) → (if b then d ∷ filter f xs else filter f xs) ≡ [] → b ≡ false
head-none f true d xs e = absurd (cc e)
head-none f false d xs e = refl

filter-step : (f : Deed → Bool) (d : Deed) (xs ys zs : List Deed) (a b c : Bool) → Whose a b c → (filter f zs ≡ [] → filter f xs ≡ filter f ys)
    → filter f (if c then d ∷ zs else zs) ≡ [] → filter f (if a then d ∷ xs else xs) ≡ filter f (if b then d ∷ ys else ys)
filter-step f d xs ys zs a b c (firsts x y z) ih none = rw (x, y) (cons-first f (f d) d xs ys (ih (rw z at none)))
filter-step f d xs ys zs a b c (nobodys x y z) ih none = rw (x, y) (ih (rw z at none))
filter-step f d xs ys zs a b c (seconds x y z) ih none =
    let none' = rw z at none in
    let off = head-none f (f d) d zs none' in
    rw (x, y) (ap (λ (p : Bool). if p then d ∷ filter f xs else filter f xs) off ∙ ih (tail-none f (f d) d zs none'))

-- what passes f and was done by the first side alone
pub filter-first : (f : Deed → Bool) (ns ms : List ℕ) (p : ℕ) (es : List Event) → AreShares (ns ++ ms) p → filter f (mine ms es) ≡ [] → filter f (mine (ns ++ ms) es) ≡ filter f (mine ns es)
filter-first f ns ms p [] shares none = refl
filter-first f ns ms p (e ∷ es) shares none =
    filter-step f (deed e) (mine (ns ++ ms) es) (mine ns es) (mine ms es) (nat_lt 0 (times e.by (ns ++ ms))) (nat_lt 0 (times e.by ns)) (nat_lt 0 (times e.by ms))
    (whose ns ms p e.by shares) (λ h. filter-first f ns ms p es shares h) none

swapped : (a b c : Bool) → Whose a b c → Whose a c b
swapped a b c (firsts x y z) = seconds x z y
swapped a b c (seconds x y z) = firsts x z y
swapped a b c (nobodys x y z) = nobodys x z y

-- or by the second
pub filter-second : (f : Deed → Bool) (ns ms : List ℕ) (p : ℕ) (es : List Event) → AreShares (ns ++ ms) p → filter f (mine ns es) ≡ [] → filter f (mine (ns ++ ms) es) ≡ filter f (mine ms es)
filter-second f ns ms p [] shares none = refl
filter-second f ns ms p (e ∷ es) shares none =
    filter-step f (deed e) (mine (ns ++ ms) es) (mine ms es) (mine ns es) (nat_lt 0 (times e.by (ns ++ ms))) (nat_lt 0 (times e.by ms)) (nat_lt 0 (times e.by ns))
    (swapped (nat_lt 0 (times e.by (ns ++ ms))) (nat_lt 0 (times e.by ns)) (nat_lt 0 (times e.by ms)) (whose ns ms p e.by shares))
    (λ h. filter-second f ns ms p es shares h) none

-- one side has none of them
pub filter-both : (f : Deed → Bool) (ns ms : List ℕ) (p : ℕ) (es : List Event) → AreShares (ns ++ ms) p → (filter f (mine ns es) ≡ []) ⊎ (filter f (mine ms es) ≡ [])
    → filter f (mine (ns ++ ms) es) ≡ filter f (mine ns es) ++ filter f (mine ms es)
filter-both f ns ms p es shares (inl none) = filter-second f ns ms p es shares none ∙ ap (λ (l : List Deed). l ++ filter f (mine ms es)) (sym none)
filter-both f ns ms p es shares (inr none) = filter-first f ns ms p es shares none ∙ sym (append-nil (filter f (mine ns es))) ∙ ap (λ (l : List Deed). filter f (mine ns es) ++ l) (sym none)

-- of the only pass all events are
pub mine-all : (ns : List ℕ) (p : ℕ) (es : List Event) → ((n : ℕ) → times n ns ≡ once_below n p) → Below p es → mine ns es ≡ map deed es
mine-all ns p [] only low = refl
mine-all ns p (e ∷ es) only low =
    let once : once_below e.by p ≡ 1 = ap one_if (lt-ltb e.by p low.0) in
    let same = only e.by in
    ap (λ (b : Bool). if b then deed e ∷ mine ns es else mine ns es) (lt-ltb 0 (times e.by ns) (omega arith)) ∙ ap (λ (l : List Deed). deed e ∷ l) (mine-all ns p es only low.1)
