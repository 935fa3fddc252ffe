-- SWITCH LOGFILE leads on: a record is added with its artefact and its object.
use Rattle.std.proofs.Common.{◌≡◌, ◌≢◌, ◌<◌, ◌≤◌, ◌+◌, ◌∙◌, ◌++◌, ◌==◌, ◌&&◌, nat_le, nat_lt, inl, inr, ℕ, List, [], ◌∷◌, Option, None, Bool, true, false, cond, refl, ap, sym, subst, arith, filter, rules}
use Rattle.std.proofs.lemmas.Bool.{and_left, and_right, cases_eq, cases_lt, le-ltb, lt-leb}
use Rattle.rm_base.specs.{Store.{Held}, declared.{block.Change.{Change}, refusal.Refusal.{Refusal}}}
use Rattle.rm_base.proofs.Conditions.{only-where, unless}
use Rattle.rm_history.specs.{Agrees.{LogAgrees, is_of}, Artefacts.{Log}}
use Rattle.rm_catalog_typed.specs.Ledger.{Ledger}
use Rattle.rm_redo.specs.{LogFile.{changes_in, log_of}, Online.{IsThread}, declared.log_file.LogFile.{LogFile}}
use Rattle.rm_redo.proofs.Logs.{around-switched, is_lost-switched}
use Rattle.rm_report.specs.declared.line.Line.{Line}
use Rattle.rm_machine.specs.Effect.{Effect, LeavesObjects, Made, a_log, done, no_effect}
use Rattle.rm_machine.specs.{Machine.{IsTrueArtefact, HistoryFits, IsBorneOut}, Marks.{ids_refusal}, Sound.{IsOnline, IsSound}}
use Rattle.rm_machine.specs.State.{ledger, is_lost, is_no_thread, online, redo_end, world}
use Rattle.rm_machine.specs.SwitchLogfile.{archive_refusal, archived, is_due, log_entry, made_lines, none_lines, switch_refusal, with_archived}
use Rattle.rm_machine.{specs.declared.state.State.{State}, proofs.{Kept.{stand-same}, Later.{borne-beside}}}
use Rattle.rm_machine.proofs.{Switching.{CanArchive, due-parts, sound-after}, Threads.{thread-before, thread-of}}
use Rattle.rm_machine.proofs.Switching as shared
use Rattle.rm_lang_statement.specs.declared.command.Command.TheVariants.{SwitchLogfile}
use Rattle.rm_machine_laws.proofs.{Leading.{LeadsOnBy, StaysBy}, Quiet.{quiet-on, same-stays, unchanged}}
use Rattle.rm_machine_laws.proofs.NewObjects.{borne-logged, with_puts}

-- An empty log

out-of : (a : Log) (c : Change) → a.next ≤ a.first → is_of a c ≡ false
out-of a c empty =
    let front : Bool = (c.inc == a.inc) && (c.thread == a.thread) in
    elim (cases_lt c.scn a.first) [
      | inl low ↦ and_left (front && nat_le a.first c.scn) (nat_lt c.scn a.next) (and_right front (nat_le a.first c.scn) (lt-leb a.first c.scn low))
      | inr high ↦ and_right (front && nat_le a.first c.scn) (nat_lt c.scn a.next) (le-ltb c.scn a.next (omega (arith, empty, high)))
    ]

filter-out : (p : Change → Bool) (h : List Change) → ((c : Change) → p c ≡ false) → filter p h ≡ []
filter-out p [] out = refl
filter-out p (c ∷ cs) out = ap (λ b. cond b (c ∷ filter p cs) (filter p cs)) (out c) ∙ filter-out p cs out

pub empty-agrees : (h : List Change) (l : LogFile) → l.records ≡ [] → l.next ≤ l.first → LogAgrees h (log_of l)
empty-agrees h l none empty = ap (changes_in l.inc l.thread) none ∙ sym (filter-out (is_of (log_of l)) h (λ c. out-of (log_of l) c empty))

-- Why it was not refused

pub record CanSwitch (s : State) (t : ℕ) : Type 0 where
  pub opened : s.instance.is_open ≡ true
  pub there : IsThread s.instance.logs t
  pub due : is_due s t ≡ true → archive_refusal s t ≡ None

where-due : (b : Bool) (o other : Option Refusal) → cond b o other ≡ None → b ≡ true → o ≡ None
where-due true o other is here = is
where-due false o other is here = absurd (cc)

pub can-switch : (s : State) (t : ℕ) → switch_refusal s t ≡ None → CanSwitch s t
can-switch s t is =
    let mode = only-where s.instance.is_open _ _ is in
    let threads = unless (is_no_thread s t) _ _ mode.1 in
    record { opened = mode.0; there = thread-of s t threads.0; due = where-due (is_due s t) (archive_refusal s t) (ids_refusal s) threads.1 }

pub can-archive : (s : State) (t : ℕ) → CanSwitch s t → is_due s t ≡ true → CanArchive s t
can-archive s t can due =
    let parts = due-parts s t due in
    let is = can.due due in
    let most : s.catalog.ledger.base.next_id + 1 + 68 ≤ 4294967295 = search rules in
    record { roomy = search rules; ids = omega (arith, most); sequence = search rules; there = can.there; found = parts.found; some = parts.some }

-- The state after it, where there was something to archive
module _ (s : State) (t : ℕ) (sound : IsSound s) (a : CanArchive s t) where
  abbrev l : Ledger
  l = shared.l s t sound a

  abbrev log : LogFile
  log = shared.log s t sound a

  abbrev q : State
  q = shared.q s t sound a

  log-is : IsOnline l.tree log
  log-is = shared.log-is s t sound a

  redo-after : redo_end q ≡ redo_end s
  redo-after = shared.redo-after s t sound a

  -- the log of another thread stays
  other-after : (u : ℕ) → 0 < u → u ≢ t → online q u ≡ online s u
  other-after = shared.other-after s t sound a

  -- that of the thread is empty
  empty-after : (online q t).records ≡ []
  empty-after = shared.empty-after s t sound a

  begun-after : (online q t).first ≡ redo_end s
  begun-after = shared.begun-after s t sound a

  module _ (h : List Change) (keeps : HistoryFits s h) where
    online-after : (u : ℕ) → IsThread q.instance.logs u → is_lost q.instance.logs u ≡ false → LogAgrees h (log_of (online q u))
    online-after u is found = elim (cases_eq u t) [
      | inl same ↦ subst (λ v. LogAgrees h (log_of (online q v))) (sym same) (empty-agrees h (online q t) empty-after (let begun = begun-after in let end = redo-after in omega (arith, begun, end)))
      | inr other ↦ subst (λ x. LogAgrees h (log_of x)) (sym (other-after u is.0 other)) (keeps.online u (thread-before s.instance.logs q.instance.logs u (around-switched s.instance.logs t (redo_end s)) is) (sym (is_lost-switched s.instance.logs t u (redo_end s)) ∙ found))
    ]

    keeps-after : HistoryFits q h
    keeps-after = record { history = keeps.history; below = keeps.below; online = online-after; place = keeps.place; tracker = keeps.tracker; in_open = keeps.in_open; point = keeps.point }

    made-after : IsTrueArtefact (world s) h (a_log log)
    made-after = record {
      agrees = keeps.online t a.there a.found;
      valid = log-is.valid;
      within = (sound.logs.there, omega arith);
      of = tt;
    }

-- What stands after it

pub switched-by : (s : State) (t : ℕ) (h : List Change) (objects : Held) (made : List Made) (touched : List (List ℕ)) → IsBorneOut s h objects made touched → CanArchive s t
    → IsBorneOut (with_archived s t) h (with_puts (archived s.catalog.ledger.base.next_id (online s t)).puts objects) (made ++ (archived s.catalog.ledger.base.next_id (online s t)).made) touched
switched-by s t h objects made touched stands a =
    borne-logged s (with_archived s t).instance (log_entry s.catalog.ledger.base.next_id (online s t)) (online s t) h objects made touched
    (sound-after s t stands.state a) (keeps-after s t stands.state a h stands.keeps) refl
    (record { inc = refl; thread = refl; sequence = refl; first = refl; next = refl }) (record { size = refl; sha = refl }) (made-after s t stands.state a h stands.keeps) stands

switch-by : (b : Bool) (s : State) (t : ℕ) (h : List Change) (objects : Held) (made : List Made) (touched : List (List ℕ)) (said : List Line) (e : Effect) (q : State) (after : Held) → is_due s t ≡ b → IsBorneOut s h objects made touched → CanSwitch s t
    → done said e q ≡ cond b (done (made_lines s t) (archived s.catalog.ledger.base.next_id (online s t)) (with_archived s t)) (done (none_lines t) no_effect s) → LeavesObjects e objects after → IsBorneOut q (h ++ e.changes) after (made ++ e.made) touched
switch-by true s t h objects made touched said e q after due stands can is effect =
    let by = archived s.catalog.ledger.base.next_id (online s t) in
    let mid = with_puts by.puts objects in
    unchanged (with_archived s t) by h objects made touched e q after refl (cc) (cc) effect (λ left.
    borne-beside (with_archived s t) h mid after (made ++ by.made) touched touched (switched-by s t h objects made touched stands (can-archive s t can due))
    (stand-same mid after touched (ledger (with_archived s t)) (ledger (with_archived s t)) (λ n. left.removes n ∙ left.puts n)))
switch-by false s t h objects made touched said e q after due stands can is effect = quiet-on s h objects made touched _ said e q after is effect stands

pub switch-on : (t : ℕ) → LeadsOnBy (SwitchLogfile t)
switch-on t s h objects made touched said e q after well stands tell none does effect =
    switch-by (is_due s t) s t h objects made touched said e q after refl stands (can-switch s t none) does effect

stays-by : (b : Bool) (s : State) (t : ℕ) (said : List Line) (e : Effect) (q : State) → is_due s t ≡ b → IsSound s → s.catalog.saved ≡ None → CanSwitch s t
    → done said e q ≡ cond b (done (made_lines s t) (archived s.catalog.ledger.base.next_id (online s t)) (with_archived s t)) (done (none_lines t) no_effect s) → IsSound q × (q.catalog.saved ≡ None)
stays-by true s t said e q due sound none can is = same-stays (with_archived s t) q (cc) (sound-after s t sound (can-archive s t can due)) none
stays-by false s t said e q due sound none can is = same-stays s q (cc) sound none

pub switch-stays : (t : ℕ) → StaysBy (SwitchLogfile t)
switch-stays t s objects said e q well sound none accepted does = stays-by (is_due s t) s t said e q refl sound none (can-switch s t accepted) does
