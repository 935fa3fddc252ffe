-- The last switch of a thread, and where the same threads are enabled.
use Rattle.std.proofs.Common.{◌≡◌, ◌≤◌, ◌∙◌, ◌==◌, ◌&&◌, ◌⊎◌, inl, inr, nat_le, ℕ, List, [], ◌∷◌, ◌++◌, Option, Some, None, Bool, true, false, cond, fold, refl, ap, sym, subst, arith, eqb, get_or, All}
use Rattle.std.proofs.lemmas.Bool.{and_from, and_left, and_parts, and_right, cases_Bool, cases_lt, eq-eqb, eqb-true, le-leb, leb-true}
use Rattle.std.proofs.lemmas.{Bool.Decides.{nat_tests}, List.{append-nil, append_assoc, Elements.{All-head, All-tail}, Sums.{fold-append}}}
use Rattle.rm_base.{specs.Choice.{IsChoice}, proofs.Choices.{choice_passed, choice_only, choice_taken, choice_stays}}
use Rattle.rm_base.proofs.{Members.{none-in}}
use Rattle.rm_history.specs.Threads.{applies, is_last, after_switch, last_switch, is_on, is_enabled, IsEnabled}
use Rattle.rm_history.specs.{Tree.{HasParentsBelow, owner}, World.{with_switch, with_tree}, declared.tree.Incarnation.{Incarnation}}
use Rattle.rm_history.{specs.declared.world.{Switch.{Switch}, World.{World}}, proofs.Owners.{owner-owner}}

-- a switch that applies, by its parts
pub record Applies (tree : List Incarnation) (m g t : ℕ) (x : Switch) : Type 0 where
  pub thread : x.thread ≡ t
  pub until : x.scn ≤ g
  pub owned : owner tree m x.scn ≡ x.inc

pub applies-parts : (tree : List Incarnation) (m g t : ℕ) (x : Switch) → applies tree m g t x ≡ true → Applies tree m g t x
applies-parts tree m g t x is =
    let last = and_parts ((x.thread == t) && nat_le x.scn g) (owner tree m x.scn == x.inc) is in
    let first = and_parts (x.thread == t) (nat_le x.scn g) last.0 in
    record { thread = eqb-true x.thread t first.0; until = leb-true x.scn g first.1; owned = eqb-true (owner tree m x.scn) x.inc last.1 }

pub applies-from : (tree : List Incarnation) (m g t : ℕ) (x : Switch) → Applies tree m g t x → applies tree m g t x ≡ true
applies-from tree m g t x is =
    and_from ((x.thread == t) && nat_le x.scn g) (owner tree m x.scn == x.inc)
    (and_from (x.thread == t) (nat_le x.scn g) (eq-eqb x.thread t is.thread) (le-leb x.scn g is.until))
    (eq-eqb (owner tree m x.scn) x.inc is.owned)

-- The last of the switches that pass is one of the greatest SCN.
abbrev pub IsLast : (Switch → Bool) → List Switch → Option Switch → Type 0
IsLast p xs o = IsChoice (λ x. p x ≡ true) (λ x y. y.scn ≤ x.scn) xs o

is_not : (b : Bool) → b ≡ false → ¬ (b ≡ true)
is_not b off on = let both : true ≡ false = sym on ∙ off in absurd (cc)

least : (a b : ℕ) → nat_le a b ≡ false → b ≤ a
least a b more = grind (arith, nat_tests)

pub last-after : (p : Switch → Bool) (xs : List Switch) (o : Option Switch) (x : Switch) → IsLast p xs o → IsLast p (xs ++ x ∷ []) (after_switch p o x)
last-after p xs o x is = by (p x) refl
  where
    chosen : (o : Option Switch) → p x ≡ true → IsLast p xs o → IsLast p (xs ++ x ∷ []) (cond (is_last x o) (Some x) o)
    chosen None passes was = choice_only (λ x. p x ≡ true) (λ x y. y.scn ≤ x.scn) xs x was passes (omega arith)
    chosen (Some y) passes was = pick (nat_le y.scn x.scn) refl
      where
        pick : (b : Bool) → nat_le y.scn x.scn ≡ b → IsLast p (xs ++ x ∷ []) (cond b (Some x) (Some y))
        pick true low = choice_taken (λ x. p x ≡ true) (λ x y. y.scn ≤ x.scn) xs x y was passes (omega arith) (leb-true y.scn x.scn low) (λ z up down. omega (arith, up, down))
        pick false high = choice_stays (λ x. p x ≡ true) (λ x y. y.scn ≤ x.scn) xs x y was (least y.scn x.scn high)

    by : (b : Bool) → p x ≡ b → IsLast p (xs ++ x ∷ []) (cond (b && is_last x o) (Some x) o)
    by true passes = chosen o passes is
    by false fails = choice_passed (λ x. p x ≡ true) (λ x y. y.scn ≤ x.scn) xs x o is (is_not (p x) fails)

last-on : (p : Switch → Bool) (ys xs : List Switch) (o : Option Switch) → IsLast p ys o → IsLast p (ys ++ xs) (fold (after_switch p) o xs)
last-on p ys [] o is = subst (λ (zs : List Switch). IsLast p zs o) (sym (append-nil ys)) is
last-on p ys (x ∷ xs) o is =
    subst (λ (zs : List Switch). IsLast p zs (fold (after_switch p) o (x ∷ xs))) (append_assoc ys (x ∷ []) xs) (last-on p (ys ++ x ∷ []) xs (after_switch p o x) (last-after p ys o x is))

pub last-is : (p : Switch → Bool) (xs : List Switch) → IsLast p xs (last_switch p xs)
last-is p xs = last-on p [] xs None (λ y held passes. none-in y held)

-- one switch more
pub last-push : (p : Switch → Bool) (xs : List Switch) (x : Switch) → last_switch p (xs ++ x ∷ []) ≡ after_switch p (last_switch p xs) x
last-push p xs x = fold-append (after_switch p) None xs (x ∷ [])

pub last-push_other : (p : Switch → Bool) (xs : List Switch) (x : Switch) → p x ≡ false → last_switch p (xs ++ x ∷ []) ≡ last_switch p xs
last-push_other p xs x fails = last-push p xs x ∙ ap (λ b. cond (b && is_last x (last_switch p xs)) (Some x) (last_switch p xs)) fails

-- tests that agree find the same
fold-same : (p q : Switch → Bool) (xs : List Switch) (o : Option Switch) → All (λ x. p x ≡ q x) xs → fold (after_switch p) o xs ≡ fold (after_switch q) o xs
fold-same p q [] o same = refl
fold-same p q (x ∷ xs) o same =
    ap (λ b. fold (after_switch p) (cond (b && is_last x o) (Some x) o) xs) (All-head (λ x. p x ≡ q x) x xs same)
    ∙ fold-same p q xs (after_switch q o x) (All-tail (λ x. p x ≡ q x) x xs same)

pub last-same : (p q : Switch → Bool) (xs : List Switch) → All (λ x. p x ≡ q x) xs → last_switch p xs ≡ last_switch q xs
last-same p q xs same = fold-same p q xs None same

-- Where the paths of two incarnations have the same owners up to g, the same threads are enabled at g.
applies-alike : (t u : List Incarnation) (m n g k : ℕ) (x : Switch) → (x.scn ≤ g → owner t m x.scn ≡ owner u n x.scn) → applies t m g k x ≡ applies u n g k x
applies-alike t u m n g k x same = elim (cases_lt g x.scn) [
  | inr low ↦ ap (λ o. eqb x.thread k && nat_le x.scn g && eqb o x.inc) (same low)
  | inl high ↦
      let out : ((x.thread == k) && nat_le x.scn g) ≡ false = and_right (x.thread == k) (nat_le x.scn g) (grind (arith, nat_tests)) in
      and_left ((x.thread == k) && nat_le x.scn g) (owner t m x.scn == x.inc) out
      ∙ sym (and_left ((x.thread == k) && nat_le x.scn g) (owner u n x.scn == x.inc) out)
]

pub enabled-alike : (t u : List Incarnation) (threads : ℕ) (xs : List Switch) (m n g k : ℕ) → ((c : ℕ) → c ≤ g → owner t m c ≡ owner u n c) → is_enabled t threads xs m g k ≡ is_enabled u threads xs n g k
unfolding is_enabled
enabled-alike t u threads xs m n g k same =
    ap (is_on threads k) (last-same (applies t m g k) (applies u n g k) xs (λ j d inside. applies-alike t u m n g k (get_or xs j d) (λ low. same (get_or xs j d).scn low)))

-- the owner of g has the same threads enabled there
pub enabled-owner : (tree : List Incarnation) → HasParentsBelow tree → (threads : ℕ) (xs : List Switch) (i g k : ℕ) → is_enabled tree threads xs (owner tree i g) g k ≡ is_enabled tree threads xs i g k
enabled-owner tree below threads xs i g k = enabled-alike tree tree threads xs (owner tree i g) i g k (λ c low. owner-owner tree below i g c low)

-- where no thread was ever switched, those are enabled that the database began with
pub unswitched : (tree : List Incarnation) (threads m g k : ℕ) → is_enabled tree threads [] m g k ≡ nat_le k threads
unfolding is_enabled
unswitched tree threads m g k = refl

-- a switch more that does not apply changes nothing
pub enabled-push_other : (tree : List Incarnation) (threads : ℕ) (xs : List Switch) (x : Switch) (m g k : ℕ) → applies tree m g k x ≡ false → is_enabled tree threads (xs ++ x ∷ []) m g k ≡ is_enabled tree threads xs m g k
unfolding is_enabled
enabled-push_other tree threads xs x m g k other = ap (is_on threads k) (last-push_other (applies tree m g k) xs x other)

-- nor does a tree of which the path has the same owners
pub IsEnabled-with_tree : (w : World) (tree : List Incarnation) (m g t : ℕ) → ((c : ℕ) → c ≤ g → owner tree m c ≡ owner w.tree m c) → IsEnabled w m g t → IsEnabled (with_tree w tree) m g t
IsEnabled-with_tree w tree m g t same is = record { number = is.number; on = enabled-alike tree w.tree w.threads w.switches m m g t same ∙ is.on }

pub IsEnabled-with_switch : (w : World) (x : Switch) (m g t : ℕ) → applies w.tree m g t x ≡ false → IsEnabled w m g t → IsEnabled (with_switch w x) m g t
IsEnabled-with_switch w x m g t other is = record { number = is.number; on = enabled-push_other w.tree w.threads w.switches x m g t other ∙ is.on }

-- a thread is enabled or it is not
pub enabled-or-not : (w : World) (m g t : ℕ) → IsEnabled w m g t ⊎ ¬ IsEnabled w m g t
enabled-or-not w m g t = elim (cases_Bool (is_enabled w.tree w.threads w.switches m g t)) [
  | inr off ↦ inr (λ is. is_not _ off is.on)
  | inl on ↦ elim (cases_lt 4 t) [
    | inl many ↦ inr (λ is. let few = is.number.1 in omega (arith, few, many))
    | inr few ↦ elim (cases_lt 0 t) [
      | inl some ↦ inl (record { number = (some, few); on = on })
      | inr none ↦ inr (λ is. let some = is.number.0 in omega (arith, some, none))
    ]
  ]
]
