-- Histories whose changes lie below the ends of their incarnations.
use Rattle.std.proofs.Common.{◌≡◌, ◌≢◌, ◌<◌, ◌≤◌, ◌+◌, ◌∙◌, ◌==◌, ◌&&◌, inl, inr, nat_le, nat_lt, ℕ, List, [], ◌∷◌, ◌++◌, Some, None, Bool, true, false, cond, refl, ap, sym, subst, arith, All, Contains, filter}
use Rattle.std.proofs.lemmas.Bool.{and_from, and_parts, and_right, cases_lt, eq-eqb, eqb-true, le-leb, leb-true, lt-ltb, ltb-true, ne_eqb}
use Rattle.std.proofs.lemmas.List.Elements.{All-head, All-tail, All-weaker, Contains-get_or, filter-append}
use Rattle.rm_base.specs.{Content.{zero_block}, declared.block.Change.{Change}}
use Rattle.rm_history.specs.{Agrees.{LogAgrees, is_of}, Artefacts.{Log}, State.{concerns, later, latest, row_of, state}}
use Rattle.rm_history.specs.{Tree.{IsThere, end_of, owner, with_end}, World.{creation_of}, declared.tree.Incarnation.{Incarnation}}
use Rattle.rm_history.{specs.declared.world.World.{World}, proofs.{Ends.{ends-risen}, Growth.{concerns-later}}}
use Rattle.rm_history.proofs.States.{concerns-parts, concerns-from}

-- each change lies below the end of its incarnation
abbrev pub LieBelow : List Incarnation → List Change → Type 0
LieBelow tree h = All (λ c. c.scn < end_of tree c.inc) h

pub below-risen : (tree : List Incarnation) (j end : ℕ) (h : List Change) → IsThere tree j → end_of tree j ≤ end → ((c : Change) → Contains h c → IsThere tree c.inc) → LieBelow tree h → LieBelow (with_end tree j end) h
below-risen tree j end h there up known below k d inside =
    let low = below k d inside in
    let rises = ends-risen tree j end _ there up (known _ (Contains-get_or h k d inside)) in
    omega (arith, low, rises)

-- Tests that agree on a history find the same in it.

pub latest-same_in : (p q : Change → Bool) (h : List Change) → All (λ c. p c ≡ q c) h → latest p h ≡ latest q h
latest-same_in p q [] same = refl
latest-same_in p q (c ∷ cs) same =
    ap (λ b. cond b (Some (later c (latest p cs))) (latest p cs)) (All-head (λ c. p c ≡ q c) c cs same)
    ∙ ap (λ o. cond (q c) (Some (later c o)) o) (latest-same_in p q cs (All-tail (λ c. p c ≡ q c) c cs same))

pub latest-none_in : (p : Change → Bool) (h : List Change) → All (λ c. p c ≡ false) h → latest p h ≡ None
latest-none_in p [] fails = refl
latest-none_in p (c ∷ cs) fails =
    ap (λ b. cond b (Some (later c (latest p cs))) (latest p cs)) (All-head (λ c. p c ≡ false) c cs fails)
    ∙ latest-none_in p cs (All-tail (λ c. p c ≡ false) c cs fails)

pub filter-same_in : (p q : Change → Bool) (h : List Change) → All (λ c. p c ≡ q c) h → filter p h ≡ filter q h
filter-same_in p q [] same = refl
filter-same_in p q (c ∷ cs) same =
    ap (λ b. cond b (c ∷ filter p cs) (filter p cs)) (All-head (λ c. p c ≡ q c) c cs same)
    ∙ ap (λ xs. cond (q c) (c ∷ xs) xs) (filter-same_in p q cs (All-tail (λ c. p c ≡ q c) c cs same))

same-tests : (a b : Bool) → (a ≡ true → b ≡ true) → (b ≡ true → a ≡ true) → a ≡ b
same-tests true b to back = sym (to refl)
same-tests false true to back = back refl
same-tests false false to back = refl

-- The state at the end of an incarnation

-- no change of an incarnation stands at its end
concerns-end : (w : World) (i f b : ℕ) (c : Change) → owner w.tree i (end_of w.tree i) ≡ i → c.scn < end_of w.tree c.inc → concerns w i (end_of w.tree i + 1) f b c ≡ concerns w i (end_of w.tree i) f b c
concerns-end w i f b c here low =
    let end = end_of w.tree i in
    same-tests (concerns w i (end + 1) f b c) (concerns w i end f b c)
    (λ is.
    let parts = concerns-parts w i (end + 1) f b c is in
    let until = parts.below in
    elim (cases_lt c.scn end) [
      | inl less ↦ concerns-from w i end f b c (record { file = parts.file; block = parts.block; below = less; owned = parts.owned })
      | inr most ↦
          let met : c.scn ≡ end = omega (arith, until, most) in
          let own : c.inc ≡ i = sym parts.owned ∙ ap (owner w.tree i) met ∙ here in
          let under : c.scn < end = subst (λ j. c.scn < end_of w.tree j) own low in
          absurd (omega (arith, under, met))
    ])
    (λ is. concerns-later w i end (end + 1) f b c (omega arith) is)

-- so the state one SCN further is the same
pub state-end : (w : World) (h : List Change) (i f b : ℕ) → owner w.tree i (end_of w.tree i) ≡ i → LieBelow w.tree h → state w h i (end_of w.tree i + 1) f b ≡ state w h i (end_of w.tree i) f b
state-end w h i f b here below =
    ap (row_of w f b) (latest-same_in (concerns w i (end_of w.tree i + 1) f b) (concerns w i (end_of w.tree i) f b) h
    (All-weaker (λ c. c.scn < end_of w.tree c.inc) (λ c. concerns w i (end_of w.tree i + 1) f b c ≡ concerns w i (end_of w.tree i) f b c) (λ c low. concerns-end w i f b c here low) h below))

-- a change of another datafile does not concern it
pub concerns-other_file : (w : World) (i s f b : ℕ) (c : Change) → c.file ≢ f → concerns w i s f b c ≡ false
concerns-other_file w i s f b c other =
    ap (λ t. t && (c.block == b) && nat_lt c.scn s && (owner w.tree i c.scn == c.inc)) (ne_eqb c.file f other)

-- and a change of another block does not
pub concerns-other_block : (w : World) (i s f b : ℕ) (c : Change) → c.block ≢ b → concerns w i s f b c ≡ false
concerns-other_block w i s f b c other =
    ap (λ t. t && nat_lt c.scn s && (owner w.tree i c.scn == c.inc)) (and_right (c.file == f) (c.block == b) (ne_eqb c.block b other))

-- a block of a datafile that no change is of is as it was created
pub state-untouched : (w : World) (h : List Change) (i s f b : ℕ) → All (λ c. c.file ≢ f) h → state w h i s f b ≡ record { block = b; version = creation_of w f; content = zero_block }
state-untouched w h i s f b other =
    ap (row_of w f b) (latest-none_in (concerns w i s f b) h (All-weaker (λ c. c.file ≢ f) (λ c. concerns w i s f b c ≡ false) (λ c ne. concerns-other_file w i s f b c ne) h other))

-- Logs that tell further

-- a change of which a log tells, by its parts
pub record IsOf (a : Log) (c : Change) : Type 0 where
  pub inc : c.inc ≡ a.inc
  pub thread : c.thread ≡ a.thread
  pub begun : a.first ≤ c.scn
  pub below : c.scn < a.next

pub is_of-parts : (a : Log) (c : Change) → is_of a c ≡ true → IsOf a c
is_of-parts a c h =
    let last = and_parts ((c.inc == a.inc) && (c.thread == a.thread) && nat_le a.first c.scn) (nat_lt c.scn a.next) h in
    let low = and_parts ((c.inc == a.inc) && (c.thread == a.thread)) (nat_le a.first c.scn) last.0 in
    let first = and_parts (c.inc == a.inc) (c.thread == a.thread) low.0 in
    record { inc = eqb-true c.inc a.inc first.0; thread = eqb-true c.thread a.thread first.1; begun = leb-true a.first c.scn low.1; below = ltb-true c.scn a.next last.1 }

pub is_of-from : (a : Log) (c : Change) → IsOf a c → is_of a c ≡ true
is_of-from a c is =
    and_from ((c.inc == a.inc) && (c.thread == a.thread) && nat_le a.first c.scn) (nat_lt c.scn a.next)
    (and_from ((c.inc == a.inc) && (c.thread == a.thread)) (nat_le a.first c.scn)
    (and_from (c.inc == a.inc) (c.thread == a.thread) (eq-eqb c.inc a.inc is.inc) (eq-eqb c.thread a.thread is.thread))
    (le-leb a.first c.scn is.begun))
    (lt-ltb c.scn a.next is.below)

off : (b : Bool) → ¬ (b ≡ true) → b ≡ false
off true not = absurd (not refl)
off false not = refl

pub is_of-not : (a : Log) (c : Change) → ¬ IsOf a c → is_of a c ≡ false
is_of-not a c not = off (is_of a c) (λ is. not (is_of-parts a c is))

-- the same log, or one that tells further
pub record Further (a b : Log) : Type 0 where
  pub inc : b.inc ≡ a.inc
  pub thread : b.thread ≡ a.thread
  pub first : b.first ≡ a.first
  pub next : a.next ≤ b.next

-- it tells of each change of which the log told
pub is_of-further : (a b : Log) (c : Change) → Further a b → is_of a c ≡ true → is_of b c ≡ true
is_of-further a b c more is =
    let was = is_of-parts a c is in
    is_of-from b c (record {
      inc = was.inc ∙ sym more.inc;
      thread = was.thread ∙ sym more.thread;
      begun = omega (arith, was.begun, more.first);
      below = omega (arith, was.below, more.next);
    })

-- and of no others, where those of its incarnation lie below
is_of-same : (a b : Log) (c : Change) → Further a b → (c.inc ≡ a.inc → c.scn < a.next) → is_of a c ≡ is_of b c
is_of-same a b c more low =
    same-tests (is_of a c) (is_of b c) (λ is. is_of-further a b c more is) (λ is.
    let now = is_of-parts b c is in
    let own : c.inc ≡ a.inc = now.inc ∙ more.inc in
    is_of-from a c (record { inc = own; thread = now.thread ∙ more.thread; begun = omega (arith, now.begun, more.first); below = low own }))

filter-further : (h : List Change) (a b : Log) → Further a b → All (λ c. c.inc ≡ a.inc → c.scn < a.next) h → filter (is_of a) h ≡ filter (is_of b) h
filter-further h a b more low =
    filter-same_in (is_of a) (is_of b) h (All-weaker (λ c. c.inc ≡ a.inc → c.scn < a.next) (λ c. is_of a c ≡ is_of b c) (λ c under. is_of-same a b c more under) h low)

-- it goes on to agree
pub agrees-further : (h : List Change) (a b : Log) → Further a b → b.changes ≡ a.changes → All (λ c. c.inc ≡ a.inc → c.scn < a.next) h → LogAgrees h a → LogAgrees h b
agrees-further h a b more same low agrees = same ∙ agrees ∙ filter-further h a b more low

-- also with a change more
pub agrees-pushed : (h : List Change) (c : Change) (a b : Log) → Further a b → b.changes ≡ a.changes ++ c ∷ [] → is_of b c ≡ true → All (λ c. c.inc ≡ a.inc → c.scn < a.next) h → LogAgrees h a → LogAgrees (h ++ c ∷ []) b
agrees-pushed h c a b more grown own low agrees =
    grown
    ∙ ap (λ xs. xs ++ c ∷ []) (agrees ∙ filter-further h a b more low)
    ∙ ap (λ t. filter (is_of b) h ++ cond t (c ∷ []) []) (sym own)
    ∙ sym (filter-append (is_of b) h (c ∷ []))
