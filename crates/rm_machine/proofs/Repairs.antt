-- Which events a BLOCKRECOVER has, and what the evidence tells of their rows.
use Rattle.std.proofs.Common.{◌≡◌, ◌∙◌, ◌++◌, ◌==◌, inl, inr, ℕ, suc, List, [], ◌∷◌, Ok, Err, Result, Bool, true, false, refl, ap, sym, subst, arith, map, Contains}
use Rattle.std.proofs.lemmas.Bool.{and_from, and_parts, eq-eqb, eqb-true, or_cases}
use Rattle.std.proofs.lemmas.List.Elements.{Contains-append_cases, Contains-append_left}
use Rattle.rm_base.{specs.declared.block.{BlockId.{BlockId}, Row.{Row}}, proofs.Lists.{any_to, filter_from, filter_to, map_from}}
use Rattle.rm_base.proofs.Members.{behind, first-or-rest, in-front, none-in}
use Rattle.rm_channel.specs.{Jobs.{Deed, wrote, wrote_of}, Made.{AreThese, deed, did_by}, declared.jobs.WriteJob.{WriteJob}}
use Rattle.rm_history.specs.{Evidence.{Evidence}, declared.world.World.{World}}
use Rattle.rm_lang_statement.specs.declared.command.WriteForm.{WriteForm}
use Rattle.rm_live.specs.{Ruled.{one_if}, Touched.{is_mend_of, is_mended}, declared.history.Answer.{Answer}}
use Rattle.rm_live.specs.declared.history.{Answer.TheVariants.{Found, Mended, Wrote}, Call.{Call, TheVariants.{Mend, Read, Write}}}
use Rattle.rm_live.{specs.declared.history.{Event.{Event}, LiveFault.{LiveFault}}, proofs.Mends.{mends-itself, mends-same, mends_by}}
use Rattle.rm_machine.{specs.{Asked.{lists_from}, BlockRecover.{mends_of}}, proofs.{Deeds.{counted, had, writes-asked}, Walk.{IsAsked}}}
use Rattle.rm_machine.proofs.Mending.{AreDue, IsDue, Patch}
use Rattle.rm_plan.specs.Blocks.{AreToldRows, IsToldRow}

-- the rows with the datafiles of their blocks
abbrev pub patches : List BlockId → List Row → List Patch
patches [] rows = []
patches (x ∷ xs) [] = []
patches (x ∷ xs) (r ∷ rows) = (x.file, r) ∷ patches xs rows

abbrev pub mend_deed : Patch → Deed
mend_deed m = (Mend m.0 m.1, Mended true)

abbrev Due : List WriteForm → List Patch → Deed → Type 0
Due ws ms d = IsDue ws ms d.0 d.1

-- The list of all answers

mends-due : (ws : List WriteForm) (xs : List BlockId) (rows : List Row) (d : Deed) → Contains (mends_of xs rows) d → (m : Patch) × Contains (patches xs rows) m × (mend_deed m ≡ d)
mends-due ws [] rows d has = absurd (none-in d has)
mends-due ws (x ∷ xs) [] d has = absurd (none-in d has)
mends-due ws (x ∷ xs) (r ∷ rows) d has = elim (first-or-rest (mend_deed (x.file, r)) (mends_of xs rows) d has) [
  | inl same ↦ ((x.file, r), in-front (x.file, r) (patches xs rows), same)
  | inr rest ↦ let later = mends-due ws xs rows d rest in (later.0, behind (x.file, r) (patches xs rows) later.0 later.1, later.2)
]

due-mend : (xs : List BlockId) (rows : List Row) (m : Patch) → Contains (patches xs rows) m → Contains (mends_of xs rows) (mend_deed m)
due-mend [] rows m has = absurd (none-in m has)
due-mend (x ∷ xs) [] m has = absurd (none-in m has)
due-mend (x ∷ xs) (r ∷ rows) m has = elim (first-or-rest (x.file, r) (patches xs rows) m has) [
  | inl same ↦ subst (λ (n : Patch). Contains (mends_of (x ∷ xs) (r ∷ rows)) (mend_deed n)) same (in-front (mend_deed (x.file, r)) (mends_of xs rows))
  | inr rest ↦ behind (mend_deed (x.file, r)) (mends_of xs rows) (mend_deed m) (due-mend xs rows m rest)
]

abbrev is_read : Deed → Bool
is_read (Read f b, answer) = true
is_read (Write t f b content, answer) = false
is_read (Mend f row, answer) = false

wrote-no_read : (t : ℕ) (jobs : List WriteJob) (answers : List (Result ℕ LiveFault)) (d : Deed) → Contains (wrote t jobs answers) d → is_read d ≡ false
wrote-no_read t [] answers d has = absurd (none-in d has)
wrote-no_read t (j ∷ jobs) [] d has = absurd (none-in d has)
wrote-no_read t (j ∷ jobs) (a ∷ answers) d has = elim (first-or-rest (Write t j.file j.block j.content, Wrote a) (wrote t jobs answers) d has) [
  | inl same ↦ ap is_read (sym same)
  | inr rest ↦ wrote-no_read t jobs answers d rest
]

all-no_read : (t : ℕ) (lists : List (List WriteJob)) (answers : List (List (Result ℕ LiveFault))) (d : Deed) → Contains (wrote_of t lists answers) d → is_read d ≡ false
all-no_read t [] answers d has = absurd (none-in d has)
all-no_read t (jobs ∷ lists) [] d has = absurd (none-in d has)
all-no_read t (jobs ∷ lists) (one ∷ answers) d has = elim (Contains-append_cases (wrote t jobs one) (wrote_of (suc t) lists answers) d has) [
  | inl first ↦ wrote-no_read t jobs one d first
  | inr rest ↦ all-no_read (suc t) lists answers d rest
]

from-asked : (ws : List WriteForm) (ms : List Patch) (d : Deed) → IsAsked ws d.0 d.1 → is_read d ≡ false → Due ws ms d
from-asked ws ms (Read f b, answer) asked none = absurd (cc)
from-asked ws ms (Write t f b content, Found row) asked none = asked
from-asked ws ms (Write t f b content, Wrote (Ok scn)) asked none = asked
from-asked ws ms (Write t f b content, Wrote (Err fault)) asked none = asked
from-asked ws ms (Write t f b content, Mended made) asked none = asked
from-asked ws ms (Mend f row, answer) asked none = absurd asked

-- all that is to be answered
abbrev pub wanted : List BlockId → List Row → ℕ → List WriteForm → List (List ℕ) → List Deed
wanted xs rows n ws scns = mends_of xs rows ++ wrote_of 1 (lists_from 1 n ws) (map (map Ok) scns)

wanted-due : (xs : List BlockId) (rows : List Row) (n : ℕ) (ws : List WriteForm) (scns : List (List ℕ)) (d : Deed) → Contains (wanted xs rows n ws scns) d → Due ws (patches xs rows) d
wanted-due xs rows n ws scns d has = elim (Contains-append_cases (mends_of xs rows) (wrote_of 1 (lists_from 1 n ws) (map (map Ok) scns)) d has) [
  | inl mends ↦ let it = mends-due ws xs rows d mends in subst (Due ws (patches xs rows)) it.2 it.1
  | inr writes ↦ from-asked ws (patches xs rows) d (writes-asked ws 1 n scns d writes) (all-no_read 1 (lists_from 1 n ws) (map (map Ok) scns) d writes)
]

-- The events

-- a read, or a mend that was not made
abbrev is_stray : Deed → Bool
is_stray (Read f b, answer) = true
is_stray (Write t f b content, answer) = false
is_stray (Mend f row, Found found) = true
is_stray (Mend f row, Wrote w) = true
is_stray (Mend f row, Mended true) = false
is_stray (Mend f row, Mended false) = true

never-stray : (ws : List WriteForm) (ms : List Patch) (d : Deed) → Due ws ms d → is_stray d ≡ true → ⊥
never-stray ws ms (Read f b, answer) due is = due
never-stray ws ms (Write t f b content, answer) due is = absurd (cc)
never-stray ws ms (Mend f row, Found found) due is = due
never-stray ws ms (Mend f row, Wrote w) due is = due
never-stray ws ms (Mend f row, Mended true) due is = absurd (cc)
never-stray ws ms (Mend f row, Mended false) due is = due

due-row : (ws : List WriteForm) (ms : List Patch) (f : ℕ) (row : Row) (d : Deed) → mends_by f row d.0 ≡ true → Due ws ms d → Contains ms (f, row)
due-row ws ms f row (Read g b, answer) is due = absurd due
due-row ws ms f row (Write t g b content, answer) is due = absurd (cc)
due-row ws ms f row (Mend g q, Found found) is due = absurd due
due-row ws ms f row (Mend g q, Wrote w) is due = absurd due
due-row ws ms f row (Mend g q, Mended true) is due =
    let same = mends-same f row g q is in
    subst (Contains ms) (λ i. (same.0 i, same.1 i)) due
due-row ws ms f row (Mend g q, Mended false) is due = absurd due

-- so it mends the block of the row
mends-of : (m : Patch) (c : Call) → mends_by m.0 m.1 c ≡ true → is_mend_of m.0 m.1.block c ≡ true
mends-of m (Read f b) is = absurd (cc)
mends-of m (Write t f b content) is = absurd (cc)
mends-of m (Mend g q) is =
    let same = mends-same m.0 m.1 g q is in
    and_from (g == m.0) (q.block == m.1.block) (eq-eqb g m.0 same.0) (eq-eqb q.block m.1.block (ap (λ (r : Row). r.block) same.1))

module _ (xs : List BlockId) (rows : List Row) (n : ℕ) (ws : List WriteForm) (scns : List (List ℕ)) (es : List Event) (these : AreThese (wanted xs rows n ws scns) (map deed es)) where
  abbrev ms : List Patch
  ms = patches xs rows

  not-stray : (d : Deed) → Contains (map deed es) d → is_stray d ≡ true → ⊥
  not-stray d has is =
      let same = these.each_once (λ x. one_if (is_stray x)) in
      let it = had is_stray (wanted xs rows n ws scns) (omega (arith, counted is_stray (map deed es) d has is, same)) in
      never-stray ws ms it.0 (wanted-due xs rows n ws scns it.0 it.1) it.2

  due-one : (d : Deed) → Contains (map deed es) d → Due ws ms d
  due-one (Read f b, answer) has = absurd (not-stray (Read f b, answer) has refl)
  due-one (Write t f b content, answer) has =
      let d : Deed = (Write t f b content, answer) in
      let mine = subst (λ (zs : List Deed). Contains zs d) (these.in_order t) (filter_to (did_by t) (map deed es) d has (eq-eqb t t refl)) in
      wanted-due xs rows n ws scns d (filter_from (did_by t) (wanted xs rows n ws scns) d mine).0
  due-one (Mend f row, Found found) has = absurd (not-stray (Mend f row, Found found) has refl)
  due-one (Mend f row, Wrote w) has = absurd (not-stray (Mend f row, Wrote w) has refl)
  due-one (Mend f row, Mended false) has = absurd (not-stray (Mend f row, Mended false) has refl)
  due-one (Mend f row, Mended true) has =
      let by : Deed → Bool = λ d. mends_by f row d.0 in
      let same = these.each_once (λ x. one_if (by x)) in
      let it = had by (wanted xs rows n ws scns) (omega (arith, counted by (map deed es) (Mend f row, Mended true) has (mends-itself f row), same)) in
      due-row ws ms f row it.0 it.2 (wanted-due xs rows n ws scns it.0 it.1)

  due-all : (fs : List Event) → ((d : Deed) → Contains (map deed fs) d → Due ws ms d) → AreDue ws ms fs
  due-all [] all = tt
  due-all (e ∷ fs) all = (all (deed e) (in-front (deed e) (map deed fs)), due-all fs (λ d has. all d (behind (deed e) (map deed fs) d has)))

  -- each event is due
  pub are-due : AreDue ws ms es
  are-due = due-all es due-one

  -- and each mend that is due is among them
  pub due-mended : (m : Patch) → Contains ms m → is_mended es m.0 m.1.block ≡ true
  due-mended m has =
      let by : Deed → Bool = λ d. mends_by m.0 m.1 d.0 in
      let same = these.each_once (λ x. one_if (by x)) in
      let first = Contains-append_left (mends_of xs rows) (wrote_of 1 (lists_from 1 n ws) (map (map Ok) scns)) (mend_deed m) (due-mend xs rows m has) in
      let it = had by (map deed es) (omega (arith, counted by (wanted xs rows n ws scns) (mend_deed m) first (mends-itself m.0 m.1), same)) in
      let from = map_from deed es it.0 it.1 in
      any_to (λ (e : Event). is_mend_of m.0 m.1.block e.call) es from.item from.held (mends-of m from.item.call (subst (λ (x : Deed). by x ≡ true) (sym from.is) it.2))

-- an event that mends a block of these is by one of the rows
mended-by : (ws : List WriteForm) (ms : List Patch) (f b : ℕ) (c : Call) (answer : Answer) → IsDue ws ms c answer → is_mend_of f b c ≡ true → (m : Patch) × Contains ms m × (m.0 ≡ f) × (m.1.block ≡ b)
mended-by ws ms f b (Read g c) answer due is = absurd (cc)
mended-by ws ms f b (Write t g c content) answer due is = absurd (cc)
mended-by ws ms f b (Mend g row) (Found found) due is = absurd due
mended-by ws ms f b (Mend g row) (Wrote w) due is = absurd due
mended-by ws ms f b (Mend g row) (Mended false) due is = absurd due
mended-by ws ms f b (Mend g row) (Mended true) due is = let both = and_parts (g == f) (row.block == b) is in ((g, row), due, eqb-true g f both.0, eqb-true row.block b both.1)

pub mended-due : (ws : List WriteForm) (ms : List Patch) (es : List Event) (f b : ℕ) → AreDue ws ms es → is_mended es f b ≡ true → (m : Patch) × Contains ms m × (m.0 ≡ f) × (m.1.block ≡ b)
mended-due ws ms [] f b due is = absurd (cc)
mended-due ws ms (e ∷ es) f b due is = elim (or_cases (is_mend_of f b e.call) (is_mended es f b) is) [
  | inl here ↦ mended-by ws ms f b e.call e.answer due.0 here
  | inr later ↦ mended-due ws ms es f b due.1 later
]

-- so behind each front
pub due-front : (ws : List WriteForm) (ps : List Patch) (es rest : List Event) → AreDue ws ps (es ++ rest) → AreDue ws ps es
due-front ws ps [] rest due = tt
due-front ws ps (e ∷ es) rest due = (due.0, due-front ws ps es rest due.1)

-- What is told of the rows

pub record IsOfBlock (w : World) (e : Evidence) (i s : ℕ) (xs : List BlockId) (m : Patch) : Type 0 where
  pub block : BlockId
  pub has : Contains xs block
  pub file : m.0 ≡ block.file
  pub told : IsToldRow w e i s block m.1

pub patch-told : (w : World) (e : Evidence) (i s : ℕ) (xs : List BlockId) (rows : List Row) → AreToldRows w e i s xs rows → (m : Patch) → Contains (patches xs rows) m → IsOfBlock w e i s xs m
patch-told w e i s [] rows told m has = absurd (none-in m has)
patch-told w e i s (x ∷ xs) [] told m has = absurd told
patch-told w e i s (x ∷ xs) (r ∷ rows) told m has = elim (first-or-rest (x.file, r) (patches xs rows) m has) [
  | inl same ↦ subst (IsOfBlock w e i s (x ∷ xs)) same (record { block = x; has = in-front x xs; file = refl; told = told.0 })
  | inr rest ↦ let later = patch-told w e i s xs rows told.1 m rest in record { block = later.block; has = behind x xs later.block later.has; file = later.file; told = later.told }
]

-- there is one of each block
pub block-patched : (w : World) (e : Evidence) (i s : ℕ) (xs : List BlockId) (rows : List Row) → AreToldRows w e i s xs rows → (x : BlockId) → Contains xs x → (m : Patch) × Contains (patches xs rows) m × (m.0 ≡ x.file) × (m.1.block ≡ x.block)
block-patched w e i s [] rows told x has = absurd (none-in x has)
block-patched w e i s (y ∷ ys) [] told x has = absurd told
block-patched w e i s (y ∷ ys) (r ∷ rows) told x has = elim (first-or-rest y ys x has) [
  | inl same ↦ ((y.file, r), in-front (y.file, r) (patches ys rows), ap (λ (z : BlockId). z.file) same, told.0.block ∙ ap (λ (z : BlockId). z.block) same)
  | inr rest ↦ let later = block-patched w e i s ys rows told.1 x rest in (later.0, behind (y.file, r) (patches ys rows) later.0 later.1, later.2, later.3)
]
