-- The order in which a history lists its changes.
use Rattle.std.specs.Prelude.{◌↔◌}
use Rattle.std.proofs.Common.{◌≡◌, ◌∙◌, ◌<◌, ◌⊎◌, ◌==◌, ◌&&◌, ◌||◌, nat_lt, inl, inr, ℕ, Bool, true, false, cond, List, [], ◌∷◌, refl, sym, subst, arith, slice_index_or, Contains, AllPairs, filter}
use Rattle.std.proofs.lemmas.{Bool.{cases_Bool, Decides.{nat_tests}}, List.Elements.{Contains-get_or}}
use Rattle.std.proofs.lemmas.List.Kept.{AllPairs-cons, AllPairs-filter}
use Rattle.rm_base.{specs.declared.block.{Change.{Change}, Row.{Row}}, proofs.Lists.{filter_from, filter_to, pairs-head, pairs-tail}}
use Rattle.rm_base.proofs.{Members.{behind, first-or-rest, in-front}, OneOrder.{one-order}, Standing.{each-in}}
use Rattle.rm_history.specs.Artefacts.{Base, Level1, Log}
use Rattle.rm_history.specs.Agrees.{BaseAgrees, ComesBefore, IsBelow, IsRow, Level1Agrees, LogAgrees, LogLists, is_of}
use Rattle.rm_history.specs.{Evidence.{Agrees, AgreesInAnyOrder, Evidence}, History.{IsHistory, SameChanges, SamePlace}, State.{state}}
use Rattle.rm_history.specs.{Unknown.{IsOrdered}, declared.world.World.{World}}
use Rattle.rm_history.proofs.{Logs.{happened-listed, is_of-parts, listed-happened}, States.{state-members}}

-- the first number is lower, or they are one and what follows is so
abbrev Lower : ℕ → ℕ → Type 0 → Type 0
Lower m n P = (m < n) ⊎ ((m ≡ n) × P)

abbrev lower : ℕ → ℕ → Bool → Bool
lower m n b = nat_lt m n || ((m == n) && b)

lower-true : (m n : ℕ) (b : Bool) → lower m n b ≡ true → Lower m n (b ≡ true)
lower-true m n true is = elim (cases_Bool (nat_lt m n)) [
  | inl below ↦ inl (grind (arith, nat_tests))
  | inr above ↦ inr (grind (arith, nat_tests), refl)
]
lower-true m n false is = inl (grind (arith, nat_tests))

lower-false : (m n : ℕ) (b : Bool) → lower m n b ≡ false → Lower n m (b ≡ false)
lower-false m n true is = inl (grind (arith, nat_tests))
lower-false m n false is = elim (cases_Bool (nat_lt n m)) [
  | inl below ↦ inl (grind (arith, nat_tests))
  | inr above ↦ inr (grind (arith, nat_tests), refl)
]

lower-goes : {P Q R : Type 0} (m n o : ℕ) → (P → Q → R) → Lower m n P → Lower n o Q → Lower m o R
lower-goes m n o f (inl p) (inl q) = inl (omega arith)
lower-goes m n o f (inl p) (inr q) = let same = q.0 in inl (omega arith)
lower-goes m n o f (inr p) (inl q) = let same = p.0 in inl (omega arith)
lower-goes m n o f (inr p) (inr q) = inr (p.0 ∙ q.0, f p.1 q.1)

lower-never : {P : Type 0} (m n : ℕ) → m ≡ n → (P → ⊥) → Lower m n P → ⊥
lower-never m n same f (inl p) = omega arith
lower-never m n same f (inr p) = f p.1

lower-inside : {P : Type 0} (m n : ℕ) → m ≡ n → Lower m n P → P
lower-inside m n same (inl p) = absurd (omega arith)
lower-inside m n same (inr p) = p.1

-- the order of changes: by incarnation, and then that of a log
abbrev IsFirst : Change → Change → Type 0
IsFirst c d = Lower c.inc d.inc (ComesBefore c d)

abbrev is_first : Change → Change → Bool
is_first c d = lower c.inc d.inc (lower c.scn d.scn (lower c.file d.file (nat_lt c.block d.block)))

below : (m n : ℕ) → nat_lt m n ≡ true → m < n
below m n is = grind (arith, nat_tests)

lower-weaker : {P Q : Type 0} (m n : ℕ) → (P → Q) → Lower m n P → Lower m n Q
lower-weaker m n f (inl p) = inl p
lower-weaker m n f (inr p) = inr (p.0, f p.1)

is-first : (c d : Change) → is_first c d ≡ true → IsFirst c d
is-first c d is =
    lower-weaker c.inc d.inc (λ scn.
    lower-weaker c.scn d.scn (λ file.
    lower-weaker c.file d.file (below c.block d.block)
    (lower-true c.file d.file (nat_lt c.block d.block) file))
    (lower-true c.scn d.scn (lower c.file d.file (nat_lt c.block d.block)) scn))
    (lower-true c.inc d.inc (lower c.scn d.scn (lower c.file d.file (nat_lt c.block d.block))) is)

-- two changes of one place alone have no order
least : (c d : Change) → nat_lt d.block c.block ≡ false → ¬ (c.block ≡ d.block) → c.block < d.block
least c d is other = elim (cases_Bool (nat_lt c.block d.block)) [
  | inl low ↦ below c.block d.block low
  | inr high ↦ absurd (other (grind (arith, nat_tests)))
]

lower-by : {P Q : Type 0} (m n : ℕ) → (n ≡ m → P → Q) → Lower m n P → Lower m n Q
lower-by m n f (inl p) = inl p
lower-by m n f (inr p) = inr (p.0, f (sym p.0) p.1)

other-first : (c d : Change) → is_first d c ≡ false → ¬ SamePlace c d → IsFirst c d
other-first c d is apart =
    lower-by c.inc d.inc (λ inc scn_is.
    lower-by c.scn d.scn (λ scn file_is.
    lower-by c.file d.file (λ file block_is. least c d block_is (λ block. apart (record { inc = sym inc; scn = sym scn; file = sym file; block = block })))
    (lower-false d.file c.file (nat_lt d.block c.block) file_is))
    (lower-false d.scn c.scn (lower d.file c.file (nat_lt d.block c.block)) scn_is))
    (lower-false d.inc c.inc (lower d.scn c.scn (lower d.file c.file (nat_lt d.block c.block))) is)

before-goes : (c d e : Change) → ComesBefore c d → ComesBefore d e → ComesBefore c e
before-goes c d e =
    lower-goes c.scn d.scn e.scn (lower-goes c.file d.file e.file (λ p q. omega arith))

before-never : (c d : Change) → c.scn ≡ d.scn → c.file ≡ d.file → c.block ≡ d.block → ComesBefore c d → ⊥
before-never c d scn file block = lower-never c.scn d.scn scn (lower-never c.file d.file file (λ p. omega arith))

first-goes : (c d e : Change) → IsFirst c d → IsFirst d e → IsFirst c e
first-goes c d e = lower-goes c.inc d.inc e.inc (before-goes c d e)

first-apart : (c d : Change) → IsFirst c d → ¬ SamePlace c d
first-apart c d first same = lower-never c.inc d.inc same.inc (before-never c d same.scn same.file same.block) first

-- The changes of a history in their order

-- the list with a change at its place
abbrev put : Change → List Change → List Change
put c [] = c ∷ []
put c (d ∷ ds) = cond (is_first d c) (d ∷ put c ds) (c ∷ d ∷ ds)

abbrev in_order : List Change → List Change
in_order [] = []
in_order (c ∷ cs) = put c (in_order cs)

from-put-by : (b : Bool) (c d : Change) (ds rest : List Change) (x : Change) → (Contains rest x → Contains (c ∷ ds) x) → Contains (cond b (d ∷ rest) (c ∷ d ∷ ds)) x → Contains (c ∷ d ∷ ds) x
from-put-by true c d ds rest x ih is = elim (first-or-rest d rest x is) [
  | inl same ↦ behind c (d ∷ ds) x (subst (λ y. Contains (d ∷ ds) y) same (in-front d ds))
  | inr other ↦ elim (first-or-rest c ds x (ih other)) [
    | inl same ↦ subst (λ y. Contains (c ∷ d ∷ ds) y) same (in-front c (d ∷ ds))
    | inr held ↦ behind c (d ∷ ds) x (behind d ds x held)
  ]
]
from-put-by false c d ds rest x ih is = is

to-put-by : (b : Bool) (c d : Change) (ds rest : List Change) (x : Change) → (Contains (c ∷ ds) x → Contains rest x) → Contains (c ∷ d ∷ ds) x → Contains (cond b (d ∷ rest) (c ∷ d ∷ ds)) x
to-put-by true c d ds rest x ih is = elim (first-or-rest c (d ∷ ds) x is) [
  | inl same ↦ behind d rest x (ih (subst (λ y. Contains (c ∷ ds) y) same (in-front c ds)))
  | inr other ↦ elim (first-or-rest d ds x other) [
    | inl same ↦ subst (λ y. Contains (d ∷ rest) y) same (in-front d rest)
    | inr held ↦ behind d rest x (ih (behind c ds x held))
  ]
]
to-put-by false c d ds rest x ih is = is

from-put : (c : Change) (ds : List Change) (x : Change) → Contains (put c ds) x → Contains (c ∷ ds) x
from-put c [] x is = is
from-put c (d ∷ ds) x is = from-put-by (is_first d c) c d ds (put c ds) x (from-put c ds x) is

to-put : (c : Change) (ds : List Change) (x : Change) → Contains (c ∷ ds) x → Contains (put c ds) x
to-put c [] x is = is
to-put c (d ∷ ds) x is = to-put-by (is_first d c) c d ds (put c ds) x (to-put c ds x) is

ordered-from : (k : List Change) (x : Change) → Contains (in_order k) x → Contains k x
ordered-from [] x is = is
ordered-from (c ∷ cs) x is = elim (first-or-rest c (in_order cs) x (from-put c (in_order cs) x is)) [
  | inl same ↦ subst (λ y. Contains (c ∷ cs) y) same (in-front c cs)
  | inr held ↦ behind c cs x (ordered-from cs x held)
]

ordered-to : (k : List Change) (x : Change) → Contains k x → Contains (in_order k) x
ordered-to [] x is = is
ordered-to (c ∷ cs) x is = elim (first-or-rest c cs x is) [
  | inl same ↦ to-put c (in_order cs) x (subst (λ y. Contains (c ∷ in_order cs) y) same (in-front c (in_order cs)))
  | inr held ↦ to-put c (in_order cs) x (behind c (in_order cs) x (ordered-to cs x held))
]

put-ascends-by : (b : Bool) (c d : Change) (ds : List Change) → is_first d c ≡ b → AllPairs IsFirst (d ∷ ds) → ((x : Change) → Contains (d ∷ ds) x → ¬ SamePlace c x)
    → AllPairs IsFirst (put c ds) → AllPairs IsFirst (cond b (d ∷ put c ds) (c ∷ d ∷ ds))
put-ascends-by true c d ds is up apart ih = AllPairs-cons IsFirst d (put c ds) (each-in (IsFirst d) (put c ds) (λ x held. elim (first-or-rest c ds x (from-put c ds x held)) [
  | inl same ↦ subst (IsFirst d) same (is-first d c is)
  | inr there ↦ pairs-head IsFirst d ds x up there
])) ih
put-ascends-by false c d ds is up apart ih =
    let first = other-first c d is (apart d (in-front d ds)) in
    AllPairs-cons IsFirst c (d ∷ ds) (each-in (IsFirst c) (d ∷ ds) (λ x held. elim (first-or-rest d ds x held) [
      | inl same ↦ subst (IsFirst c) same first
      | inr there ↦ first-goes c d x first (pairs-head IsFirst d ds x up there)
    ])) up

put-ascends : (c : Change) (ds : List Change) → AllPairs IsFirst ds → ((x : Change) → Contains ds x → ¬ SamePlace c x) → AllPairs IsFirst (put c ds)
put-ascends c [] up apart = λ i j d less inside. absurd (omega arith)
put-ascends c (d ∷ ds) up apart =
    put-ascends-by (is_first d c) c d ds refl up apart (put-ascends c ds (pairs-tail IsFirst d ds up) (λ x held. apart x (behind d ds x held)))

ordered-ascends : (k : List Change) → AllPairs (λ c d. ¬ SamePlace c d) k → AllPairs IsFirst (in_order k)
ordered-ascends [] apart = λ i j d less inside. absurd (omega arith)
ordered-ascends (c ∷ cs) apart =
    put-ascends c (in_order cs) (ordered-ascends cs (pairs-tail (λ c d. ¬ SamePlace c d) c cs apart))
    (λ x held. pairs-head (λ c d. ¬ SamePlace c d) c cs x apart (ordered-from cs x held))

-- The history in its order

module _ (w : World) (k : List Change) (history : IsHistory w k) where
  ordered-history : IsHistory w (in_order k)
  ordered-history = record {
    changes = λ c held. history.changes c (ordered-from k c held);
    apart = λ i j d less inside. first-apart _ _ (ordered-ascends k history.apart i j d less inside);
  }

  ordered-same : SameChanges (in_order k) k
  ordered-same c = (ordered-from k c, ordered-to k c)

  filter-ascends : (a : Log) → AllPairs ComesBefore (filter (is_of a) (in_order k))
  filter-ascends a i j d less inside =
      let hs = filter (is_of a) (in_order k) in
      let low = filter_from (is_of a) (in_order k) (slice_index_or hs i d) (Contains-get_or hs i d (omega arith)) in
      let high = filter_from (is_of a) (in_order k) (slice_index_or hs j d) (Contains-get_or hs j d inside) in
      lower-inside (slice_index_or hs i d).inc (slice_index_or hs j d).inc ((is_of-parts a (slice_index_or hs i d) low.1).inc ∙ sym (is_of-parts a (slice_index_or hs j d) high.1).inc)
      (AllPairs-filter IsFirst (is_of a) (in_order k) (ordered-ascends k history.apart) i j d less inside)

  -- a log that lists its changes agrees with the history in its order
  pub ordered-log : (a : Log) → LogLists k a → LogAgrees (in_order k) a
  ordered-log a lists = one-order ComesBefore (λ c d one two. before-never c c refl refl refl (before-goes c d c one two)) a.changes (filter (is_of a) (in_order k)) lists.ascends (filter-ascends a) (λ c. (
    λ held. let was = (lists.exact c).0 held in filter_to (is_of a) (in_order k) c (ordered-to k c was.0) was.1,
    λ held. let was = filter_from (is_of a) (in_order k) c held in (lists.exact c).1 (ordered-from k c was.0, was.1),
  ))

  -- what a copy and an increment say goes by the changes alone
  module _ (h : List Change) (same : SameChanges h k) where
    state-is : (i s f b : ℕ) → state w h i s f b ≡ state w k i s f b
    state-is i s f b = state-members w h k i s f b history same

    row-to : (inc file checkpoint : ℕ) (r : Row) → IsRow w k inc file checkpoint r → IsRow w h inc file checkpoint r
    row-to inc file checkpoint r is = record { position = is.position; after = is.after; is = state-is inc is.position file r.block ∙ is.is }

    row-from : (inc file checkpoint : ℕ) (r : Row) → IsRow w h inc file checkpoint r → IsRow w k inc file checkpoint r
    row-from inc file checkpoint r is = record { position = is.position; after = is.after; is = sym (state-is inc is.position file r.block) ∙ is.is }

    below-to : (inc file checkpoint from b : ℕ) → IsBelow w k inc file checkpoint from b → IsBelow w h inc file checkpoint from b
    below-to inc file checkpoint from b is = record { position = is.position; after = is.after; below = subst (λ r. r.version < from) (sym (state-is inc is.position file b)) is.below }

    below-from : (inc file checkpoint from b : ℕ) → IsBelow w h inc file checkpoint from b → IsBelow w k inc file checkpoint from b
    below-from inc file checkpoint from b is = record { position = is.position; after = is.after; below = subst (λ r. r.version < from) (state-is inc is.position file b) is.below }

    pub base-same : (a : Base) → BaseAgrees w h a ↔ BaseAgrees w k a
    base-same a = (
      λ agrees r held. row-from a.inc a.file a.checkpoint r (agrees r held),
      λ agrees r held. row-to a.inc a.file a.checkpoint r (agrees r held),
    )

    pub level1-same : (a : Level1) → Level1Agrees w h a ↔ Level1Agrees w k a
    level1-same a = (
      λ agrees. record {
        listed = λ r held. let was = agrees.listed r held in (row-from a.inc a.file a.checkpoint r was.0, was.1);
        unlisted = λ b inside absent. below-from a.inc a.file a.checkpoint a.from b (agrees.unlisted b inside absent);
      },
      λ agrees. record {
        listed = λ r held. let was = agrees.listed r held in (row-to a.inc a.file a.checkpoint r was.0, was.1);
        unlisted = λ b inside absent. below-to a.inc a.file a.checkpoint a.from b (agrees.unlisted b inside absent);
      },
    )

  -- so it agrees in its order
  pub ordered : (e : Evidence) → AgreesInAnyOrder w k e → (h : List Change) × IsOrdered w k e h
  ordered e agrees = (
    in_order k,
    record {
      history = ordered-history;
      same = ordered-same;
      agrees = record {
        bases = λ a held. (base-same (in_order k) ordered-same a).1 (agrees.bases a held);
        level1s = λ a held. (level1-same (in_order k) ordered-same a).1 (agrees.level1s a held);
        logs = λ a held. ordered-log a (agrees.logs a held);
      };
    },
  )

-- and a history that agrees does so in any order, where the logs ascend
pub any-order : (w : World) (h : List Change) (e : Evidence) → Agrees w h e → ((a : Log) → Contains e.logs a → AllPairs ComesBefore a.changes) → AgreesInAnyOrder w h e
any-order w h e agrees ascend = record {
  bases = agrees.bases;
  level1s = agrees.level1s;
  logs = λ a held. record {
    exact = λ c. (listed-happened h a c (agrees.logs a held), λ was. happened-listed h a c (agrees.logs a held) was.0 was.1);
    ascends = ascend a held;
  };
}
