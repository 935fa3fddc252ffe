-- The switches of a redo thread in order tell where it is enabled.
use Rattle.std.specs.{Prelude.{IsPermutation}, List.Sorted.{IsNonDecreasingBy}}
use Rattle.std.proofs.Common.{◌≡◌, ◌<◌, ◌≤◌, ◌∙◌, ◌⊎◌, ◌==◌, ◌&&◌, ◌||◌, ◌+◌, nat_le, nat_lt, inl, inr, ℕ, suc, List, [], ◌∷◌, ◌++◌, Option, Some, None, Bool, true, false, cond, fold, not, refl, ap, sym, subst, arith, filter, get_or, length, take, All, Contains}
use Rattle.std.proofs.lemmas.Bool.{and_from, and_parts, cases_lt, eq-eqb, eqb-true, lt-ltb, ltb-true, Decides.{nat_tests}}
use Rattle.std.proofs.lemmas.List.{get_or_default, take_all, take_more, Elements.{Contains-get_or}}
use Rattle.std.proofs.lemmas.List.{Sorted.{Contains-permutation, IsPermutation-sym}, Sums.{fold-append}}
use Rattle.rm_base.proofs.{Lists.{filter_from, filter_to}, Members.{in-front, behind, none-in, first-or-rest}}
use Rattle.rm_history.specs.{Threads.{applies, is_enabled, is_on, last_switch}, Tree.{owner}, declared.tree.Incarnation.{Incarnation}}
use Rattle.rm_history.{specs.declared.world.Switch.{Switch}, proofs.Enabled.{IsLast, applies-from, applies-parts, last-is}}
use Rattle.rm_plan.specs.{Idle.{AreApart, after_one, is_below, on_after}, Spans.{covers, lies_in}, declared.span.Span.{Span}}

-- a switch below s, by its parts
record IsBelow (tree : List Incarnation) (i s t : ℕ) (x : Switch) : Type 0 where
  pub thread : x.thread ≡ t
  pub below : x.scn < s
  pub owned : owner tree i x.scn ≡ x.inc

below-parts : (tree : List Incarnation) (i s t : ℕ) (x : Switch) → is_below tree i s t x ≡ true → IsBelow tree i s t x
below-parts tree i s t x is =
    let last = and_parts ((x.thread == t) && nat_lt x.scn s) (owner tree i x.scn == x.inc) is in
    let first = and_parts (x.thread == t) (nat_lt x.scn s) last.0 in
    record { thread = eqb-true x.thread t first.0; below = ltb-true x.scn s first.1; owned = eqb-true (owner tree i x.scn) x.inc last.1 }

below-from : (tree : List Incarnation) (i s t : ℕ) (x : Switch) → IsBelow tree i s t x → is_below tree i s t x ≡ true
below-from tree i s t x is =
    and_from ((x.thread == t) && nat_lt x.scn s) (owner tree i x.scn == x.inc)
    (and_from (x.thread == t) (nat_lt x.scn s) (eq-eqb x.thread t is.thread) (lt-ltb x.scn s is.below))
    (eq-eqb (owner tree i x.scn) x.inc is.owned)

-- of the switches up to g the one of the greatest SCN
record IsNewest (xs : List Switch) (g : ℕ) (x : Switch) : Type 0 where
  pub held : Contains xs x
  pub until : x.scn ≤ g
  pub top : (y : Switch) → Contains xs y → y.scn ≤ g → y.scn ≤ x.scn

-- none lies up to g, and it is as it was; or it is as the newest says
abbrev OnCases : List Switch → ℕ → Bool → Type 0
OnCases xs g on = (((y : Switch) → Contains xs y → g < y.scn) × (on_after on xs g ≡ on)) ⊎ ((x : Switch) × IsNewest xs g x × (on_after on xs g ≡ x.on))

abbrev Ascends : List Switch → Type 0
Ascends xs = IsNonDecreasingBy (λ x. x.scn) xs

ascends-tail : (x : Switch) (xs : List Switch) → Ascends (x ∷ xs) → Ascends xs
ascends-tail x xs up i j d le inside = up (suc i) (suc j) d (omega (arith, le)) (omega (arith, inside))

head-low : (x : Switch) (xs : List Switch) → Ascends (x ∷ xs) → (y : Switch) → Contains xs y → x.scn ≤ y.scn
head-low x xs up y (k, inside, is) =
    let low = up 0 (suc k) y (omega arith) (omega (arith, inside)) in
    let same = ap (λ (z : Switch). z.scn) is in
    omega (arith, low, same)

early : (g : ℕ) (on : Bool) (x : Switch) → g < x.scn → after_one g on x ≡ on
early g on x later = ap (λ b. cond b x.on on) (let no : nat_le x.scn g ≡ false = grind (arith, nat_tests) in no)

reached : (g : ℕ) (on : Bool) (x : Switch) → x.scn ≤ g → after_one g on x ≡ x.on
reached g on x low = ap (λ b. cond b x.on on) (let yes : nat_le x.scn g ≡ true = grind (arith, nat_tests) in yes)

on-cases : (xs : List Switch) (g : ℕ) (on : Bool) → Ascends xs → OnCases xs g on
on-cases [] g on up = inl (λ y held. absurd (none-in y held), refl)
on-cases (x ∷ xs) g on up = elim (cases_lt g x.scn) [
  | inl later ↦
      let same : on_after on (x ∷ xs) g ≡ on_after on xs g = ap (λ b. fold (after_one g) b xs) (early g on x later) in
      elim (on-cases xs g on (ascends-tail x xs up)) [
        | inl none ↦ inl (
          λ y held. elim (first-or-rest x xs y held) [
            | inl first ↦ subst (λ (z : Switch). g < z.scn) first later
            | inr rest ↦ none.0 y rest
          ],
          same ∙ none.1,
        )
        | inr some ↦
            let low = head-low x xs up some.0 some.1.held in
            let until = some.1.until in
            absurd (omega (arith, low, until, later))
      ]
  | inr low ↦
      let same : on_after on (x ∷ xs) g ≡ on_after x.on xs g = ap (λ b. fold (after_one g) b xs) (reached g on x low) in
      elim (on-cases xs g x.on (ascends-tail x xs up)) [
        | inl none ↦ inr (
          x,
          record {
            held = in-front x xs;
            until = low;
            top = λ y held under. elim (first-or-rest x xs y held) [
              | inl first ↦ subst (λ (z : Switch). z.scn ≤ x.scn) first (omega arith)
              | inr rest ↦ let past = none.0 y rest in absurd (omega (arith, past, under))
            ];
          },
          same ∙ none.1,
        )
        | inr some ↦ inr (
          some.0,
          record {
            held = behind x xs some.0 some.1.held;
            until = some.1.until;
            top = λ y held under. elim (first-or-rest x xs y held) [
              | inl first ↦ subst (λ (z : Switch). z.scn ≤ some.0.scn) first (head-low x xs up some.0 some.1.held)
              | inr rest ↦ some.1.top y rest under
            ];
          },
          same ∙ some.2,
        )
      ]
]

-- What they say, in order, of a thread is whether it is enabled.
module _ (tree : List Incarnation) (threads : ℕ) (xs : List Switch) (one : AreApart xs) (i s t : ℕ) (zs : List Switch) (same : IsPermutation (filter (is_below tree i s t) xs) zs) (up : Ascends zs) where
  member-from : (x : Switch) → Contains zs x → Contains xs x × (is_below tree i s t x ≡ true)
  member-from x held = filter_from (is_below tree i s t) xs x (Contains-permutation zs (filter (is_below tree i s t) xs) x (IsPermutation-sym (filter (is_below tree i s t) xs) zs same) held)

  member-to : (x : Switch) → Contains xs x → is_below tree i s t x ≡ true → Contains zs x
  member-to x held is = Contains-permutation (filter (is_below tree i s t) xs) zs x same (filter_to (is_below tree i s t) xs x held is)

  applies-here : (g : ℕ) (x : Switch) → is_below tree i s t x ≡ true → x.scn ≤ g → applies tree i g t x ≡ true
  applies-here g x is until =
      let parts = below-parts tree i s t x is in
      applies-from tree i g t x (record { thread = parts.thread; until = until; owned = parts.owned })

  below-here : (g : ℕ) (x : Switch) → g < s → applies tree i g t x ≡ true → is_below tree i s t x ≡ true
  below-here g x before is =
      let parts = applies-parts tree i g t x is in
      let until = parts.until in
      below-from tree i s t x (record { thread = parts.thread; below = omega (arith, until, before); owned = parts.owned })

  decide : (g : ℕ) → g < s → (o : Option Switch) → IsLast (applies tree i g t) xs o → OnCases zs g (nat_le t threads) → on_after (nat_le t threads) zs g ≡ is_on threads t o
  decide g before None none (inl cases) = cases.1
  decide g before None none (inr cases) =
      let x = cases.0 in
      let was = member-from x cases.1.held in
      absurd (none x was.0 (applies-here g x was.1 cases.1.until))
  decide g before (Some d) last (inl cases) =
      let past = cases.0 d (member-to d last.held (below-here g d before last.passes)) in
      let until = (applies-parts tree i g t d last.passes).until in
      absurd (omega (arith, past, until))
  decide g before (Some d) last (inr cases) =
      let x = cases.0 in
      let was = member-from x cases.1.held in
      let parts = applies-parts tree i g t d last.passes in
      let low = last.first x was.0 (applies-here g x was.1 cases.1.until) in
      let high = cases.1.top d (member-to d last.held (below-here g d before last.passes)) parts.until in
      let scn : x.scn ≡ d.scn = omega (arith, low, high) in
      let inc : x.inc ≡ d.inc = sym (below-parts tree i s t x was.1).owned ∙ ap (owner tree i) scn ∙ parts.owned in
      cases.2 ∙ ap (λ (z : Switch). z.on) (one x d was.0 last.held inc scn)

  pub on-is : (g : ℕ) → g < s → on_after (nat_le t threads) zs g ≡ is_enabled tree threads xs i g t
  unfolding is_enabled
  on-is g before = decide g before (last_switch (applies tree i g t) xs) (last-is (applies tree i g t) xs) (on-cases zs g (nat_le t threads) up)

  -- each lies below s
  pub each-below : All (λ x. x.scn < s) zs
  each-below k d inside = (below-parts tree i s t (get_or zs k d) (member-from (get_or zs k d) (Contains-get_or zs k d inside)).1).below

-- where g lies below s both ways of saying it are one
pub idle-same : (s g : ℕ) (a b : Bool) → (g < s → a ≡ b) → (lies_in g (record { start = 0; end = s }) && not a) ≡ (lies_in g (record { start = 0; end = s }) && not b)
idle-same s g a b same = elim (cases_lt g s) [
  | inl before ↦ ap (λ c. lies_in g (record { start = 0; end = s }) && not c) (same before)
  | inr past ↦
      let out : lies_in g (record { start = 0; end = s }) ≡ false = grind (arith, nat_tests) in
      ap (λ c. c && not a) out ∙ sym (ap (λ c. c && not b) out)
]

or-none : (x : Bool) → (x || false) ≡ x
or-none true = refl
or-none false = refl

-- where it was not on, its span is added
pub grown : (g start end : ℕ) (covered was : Bool) → start ≤ end → covered ≡ (nat_lt g start && not was) → (start ≤ g → was ≡ false) → (covered || (nat_le start g && nat_lt g end)) ≡ (nat_lt g end && not was)
grown g start end covered was up is later = elim (cases_lt g start) [
  | inl low ↦
      let a : nat_lt g start ≡ true = grind (arith, nat_tests) in
      let b : nat_le start g ≡ false = grind (arith, nat_tests) in
      let c : nat_lt g end ≡ true = grind (arith, nat_tests) in
      ap (λ x. x || (nat_le start g && nat_lt g end)) (is ∙ ap (λ x. x && not was) a)
      ∙ ap (λ x. not was || (x && nat_lt g end)) b
      ∙ or-none (not was)
      ∙ sym (ap (λ x. x && not was) c)
  | inr high ↦
      let a : nat_lt g start ≡ false = grind (arith, nat_tests) in
      let b : nat_le start g ≡ true = grind (arith, nat_tests) in
      ap (λ x. x || (nat_le start g && nat_lt g end)) (is ∙ ap (λ x. x && not was) a)
      ∙ ap (λ x. x && nat_lt g end) b
      ∙ sym (ap (λ x. nat_lt g end && not x) (later high) ∙ and-true (nat_lt g end))
]
  where
    and-true : (x : Bool) → (x && true) ≡ x
    and-true true = refl
    and-true false = refl

-- and where it was on, nothing
pub kept : (g start end : ℕ) (covered was : Bool) → start ≤ end → covered ≡ (nat_lt g start && not was) → (start ≤ g → was ≡ true) → covered ≡ (nat_lt g end && not was)
kept g start end covered was up is later = elim (cases_lt g start) [
  | inl low ↦
      let a : nat_lt g start ≡ true = grind (arith, nat_tests) in
      let c : nat_lt g end ≡ true = grind (arith, nat_tests) in
      is ∙ ap (λ x. x && not was) a ∙ sym (ap (λ x. x && not was) c)
  | inr high ↦
      let a : nat_lt g start ≡ false = grind (arith, nat_tests) in
      is ∙ ap (λ x. x && not was) a ∙ sym (ap (λ x. nat_lt g end && not x) (later high) ∙ and-false (nat_lt g end))
]
  where
    and-false : (x : Bool) → (x && false) ≡ false
    and-false true = refl
    and-false false = refl

-- a switch at or above g changes nothing below it
pub until : (g scn : ℕ) (on was : Bool) → (nat_lt g scn && not was) ≡ (nat_lt g scn && not (cond (nat_le scn g) on was))
until g scn on was = elim (cases_lt g scn) [
  | inl low ↦ let no : nat_le scn g ≡ false = grind (arith, nat_tests) in ap (λ b. nat_lt g scn && not b) (sym (ap (λ b. cond b on was) no))
  | inr high ↦
      let out : nat_lt g scn ≡ false = grind (arith, nat_tests) in
      ap (λ b. b && not was) out ∙ sym (ap (λ b. b && not (cond (nat_le scn g) on was)) out)
]

-- a span is added where it was not on
pub added : (g start end : ℕ) (on covered was : Bool) → start ≤ end → covered ≡ (nat_lt g start && not was) → (start ≤ g → was ≡ on) → (covered || (not on && (nat_le start g && nat_lt g end))) ≡ (nat_lt g end && not was)
added g start end true covered was up is later = or-none covered ∙ kept g start end covered was up is later
added g start end false covered was up is later = grown g start end covered was up is later

-- a switch of the list more
on_after-more : (on : Bool) (xs : List Switch) (k : ℕ) (x : Switch) (g : ℕ) → k < length xs → x ≡ get_or xs k x → on_after on (take (k + 1) xs) g ≡ after_one g (on_after on (take k xs) g) x
on_after-more on xs k x g inside is =
    ap (λ (ys : List Switch). on_after on ys g) (take_more xs k x inside ∙ ap (λ (y : Switch). take k xs ++ y ∷ []) (sym is))
    ∙ fold-append (after_one g) on (take k xs) (x ∷ [])

-- How far a walk over the switches has come: up to `start` all is found, and from there on it is as `on` says.
pub record Walked (begins : Bool) (xs : List Switch) (s : ℕ) (out : List Span) (on : Bool) (start k : ℕ) : Type 0 where
  pub same : (g : ℕ) → covers out g ≡ (nat_lt g start && not (on_after begins (take k xs) g))
  pub later : (g : ℕ) → start ≤ g → on_after begins (take k xs) g ≡ on
  pub above : (j : ℕ) (d : Switch) → k ≤ j → j < length xs → start ≤ (get_or xs j d).scn
  pub below : start ≤ s

pub walk-start : (begins : Bool) (xs : List Switch) (s : ℕ) → Walked begins xs s [] begins 0 0
walk-start begins xs s = record {
  same = λ g. let none : nat_lt g 0 ≡ false = grind (arith, nat_tests) in sym (ap (λ b. b && not (on_after begins (take 0 xs) g)) none);
  later = λ g low. refl;
  above = λ j d low inside. omega arith;
  below = omega arith;
}

pub walk-step : (begins : Bool) (xs : List Switch) (s : ℕ) (out new : List Span) (on : Bool) (start k : ℕ) (x : Switch) → Ascends xs → All (λ y. y.scn < s) xs → k < length xs → x ≡ get_or xs k x → Walked begins xs s out on start k → ((g : ℕ) → covers new g ≡ (covers out g || (not on && lies_in g (record { start = start; end = x.scn })))) → Walked begins xs s new x.on x.scn (k + 1)
walk-step begins xs s out new on start k x up low inside is was now =
    let here : x.scn ≡ (get_or xs k x).scn = ap (λ (z : Switch). z.scn) is in
    let rises : start ≤ (get_or xs k x).scn = was.above k x (omega arith) inside in
    record {
      same = λ g.
          now g
          ∙ added g start x.scn on (covers out g) (on_after begins (take k xs) g) (omega (arith, here, rises)) (was.same g) (was.later g)
          ∙ until g x.scn x.on (on_after begins (take k xs) g)
          ∙ ap (λ b. nat_lt g x.scn && not b) (sym (on_after-more begins xs k x g inside is));
      later = λ g reach. on_after-more begins xs k x g inside is ∙ reached g (on_after begins (take k xs) g) x reach;
      above = λ j d past within.
          let step = up k j d (omega (arith, past)) within in
          let same = ap (λ (z : Switch). z.scn) (get_or_default xs k d x inside) in
          omega (arith, here, step, same);
      below = let less = low k x inside in omega (arith, here, less);
    }

lies-zero : (g s : ℕ) → nat_lt g s ≡ lies_in g (record { start = 0; end = s })
lies-zero g s = let all : nat_le 0 g ≡ true = grind (arith, nat_tests) in sym (ap (λ b. b && nat_lt g s) all)

pub walk-end : (begins : Bool) (xs : List Switch) (s : ℕ) (out new : List Span) (on : Bool) (start k : ℕ) → length xs ≤ k → Walked begins xs s out on start k → ((g : ℕ) → covers new g ≡ (covers out g || (not on && lies_in g (record { start = start; end = s })))) → (g : ℕ) → covers new g ≡ (lies_in g (record { start = 0; end = s }) && not (on_after begins xs g))
walk-end begins xs s out new on start k all was now g =
    now g
    ∙ added g start s on (covers out g) (on_after begins (take k xs) g) was.below (was.same g) (was.later g)
    ∙ ap (λ (ys : List Switch). nat_lt g s && not (on_after begins ys g)) (take_all k xs all)
    ∙ ap (λ b. b && not (on_after begins xs g)) (lies-zero g s)
