-- DISABLE THREAD: what its steps want, and the state that they leave.
use Rattle.std.proofs.Common.{◌≡◌, ◌∙◌, ◌+◌, ◌<◌, ◌≤◌, ◌&&◌, not, nat_lt, ℕ, None, true, false, ap, sym, arith, length, All}
use Rattle.std.proofs.lemmas.{Bool.{and_right, le-ltb}, List.Elements.{All-weaker}}
use Rattle.rm_base.specs.Numbers.{last_scn}
use Rattle.rm_history.specs.Tree.{end_of}
use Rattle.rm_catalog_typed.specs.{Changes.{with_switch}, Ledger.{ledger_records}, TypedCatalog.{TypedCatalog}}
use Rattle.rm_catalog_typed.specs.declared.thread_switch.ThreadSwitch.{ThreadSwitch}
use Rattle.rm_redo.specs.{LogFormat.{IsLogRecord}, Logs.{Logs}}
use Rattle.rm_redo.specs.Online.{IsLost, IsThread, first_of, sequence_of, thread_records, with_disabled}
use Rattle.rm_machine.specs.{Archive.{after_thread}, DisableThread.{disable_refusal, switch_off, with_thread_off}}
use Rattle.rm_machine.specs.{Marks.{lacks_room, marks_before, one_further}, Sound.{IsSound}, SwitchLogfile.{is_due}}
use Rattle.rm_machine.specs.{State.{is_lost, is_online, ledger, now_of, online, redo_end, tree}, declared.state.Instance.{Instance}}
use Rattle.rm_machine.{specs.declared.state.State.{State}, proofs.Archives.{thread-either}}
use Rattle.rm_machine.proofs.Disabling.{IsAccepted, accepted, after-due, can-archive, can-disable, now-after, runs-after}
use Rattle.rm_machine.proofs.{Further.{redo-now}, Switching.{begun-after, not-above}, Threads.{thread-in}}

-- the log of the thread can be closed there, and nothing is left to archive
pub record CanClose (logs : Logs) (t scn : ℕ) : Type 0 where
  pub thread : IsThread logs t
  pub there : ¬ IsLost logs t
  pub first : first_of logs t ≤ scn
  pub last : scn ≤ last_scn
  pub above : All (λ r. r.scn < scn) (thread_records logs t)
  pub sequence : first_of logs t < scn → sequence_of logs t < 4294967295

module _ (s : State) (t : ℕ) (sound : IsSound s) (is : disable_refusal s t ≡ None) where
  abbrev q : State
  q = after_thread s t

  abbrev ok : IsAccepted s t
  ok = accepted s t sound is

  found : is_lost s.instance.logs t ≡ false
  found = (sound.in_open ok.opened).found t ok.there

  end : redo_end s ≡ now_of s
  end = ap (end_of (tree s)) (sound.in_open ok.opened).inc

  -- a log that is not due begins at the end
  not-due : is_due s t ≡ false → first_of s.instance.logs t ≡ redo_end s
  not-due none =
      let on : is_online s.instance.logs t ≡ true = λ i. ok.there.2 i && not (found i) in
      let later : nat_lt (first_of s.instance.logs t) (redo_end s) ≡ false = sym (ap (λ b. b && nat_lt (first_of s.instance.logs t) (redo_end s)) on) ∙ none in
      let range = (sound.logs.each t ok.there found).valid.range in
      omega (arith, not-above (first_of s.instance.logs t) (redo_end s) later, range.1)

  -- and so does one that was archived
  first-after : first_of q.instance.logs t ≡ now_of s
  first-after =
      thread-either (λ r. first_of r.instance.logs t ≡ redo_end s) s t (is_due s t) (λ due. begun-after s t sound (can-archive s t sound is due)) not-due ∙ end

  closes : CanClose q.instance.logs t (now_of s)
  closes =
      let can = can-disable s t sound is in
      let wide = after-due s t sound is in
      let there = thread-in q.instance.logs t can.thread.0 can.changes in
      let online = (wide.in_open can.goes.opened).found t there in
      let log = wide.logs.each t there online in
      let end_after : redo_end q ≡ now_of s = redo-now q wide can.goes ∙ now-after s t sound is in
      record {
        thread = there;
        there = λ lost. (let clash : true ≡ false = sym lost ∙ online in cc);
        first = omega (arith, first-after);
        last = omega (arith, log.valid.range.2, end_after);
        above = All-weaker (IsLogRecord (first_of q.instance.logs t) (redo_end q)) (λ r. r.scn < now_of s) (λ r from. let below = from.scn.1 in omega (arith, below, end_after)) (thread_records q.instance.logs t) log.valid.records;
        sequence = λ some. absurd (omega (arith, some, first-after));
      }

  -- there is room for the mark
  pub room-after : lacks_room q (length (marks_before q)) ≡ false
  room-after =
      let n = length (marks_before q) in
      let held = length (ledger_records (ledger q)) in
      and_right (nat_lt 0 n) (nat_lt 65536 (held + n)) (le-ltb 65536 (held + n) (can-disable s t sound is).goes.room)

  -- the log can be closed one SCN further, too
  pub can-close : (r p : State) (x : ThreadSwitch) → x ≡ switch_off s t → r ≡ q → p.instance ≡ r.instance → CanClose p.instance.logs t x.scn
  can-close r p x made archived same =
      let instance : p.instance ≡ q.instance = same ∙ ap (λ (u : State). u.instance) archived in
      coe 1 0 (i. CanClose (instance i).logs t (made i).scn) closes

  abbrev disabled : TypedCatalog → Instance → ThreadSwitch → State
  disabled catalog i x = record { catalog = with_switch catalog x; instance = record i { logs = with_disabled i.logs t } }

  -- r is s where the thread's log is archived, p is one SCN further, and then the switch goes to the catalog, and the log goes
  pub after-disable : (r p : State) (x : ThreadSwitch) (catalog : TypedCatalog) (logs : Logs)
      → x ≡ switch_off s t → r ≡ q → p.catalog ≡ one_further r → p.instance ≡ r.instance → catalog ≡ with_switch p.catalog x → logs ≡ with_disabled p.instance.logs t
      → record { catalog = catalog; instance = record p.instance { logs = logs } } ≡ with_thread_off s t
  after-disable r p x catalog logs made archived went same grew closed =
      let parts : record { catalog = catalog; instance = record p.instance { logs = logs } } ≡ disabled p.catalog p.instance x = λ i. record { catalog = grew i; instance = record p.instance { logs = closed i } } in
      let further : disabled p.catalog p.instance x ≡ disabled (one_further r) r.instance (switch_off s t) = λ i. disabled (went i) (same i) (made i) in
      let whole : disabled (one_further r) r.instance (switch_off s t) ≡ disabled (one_further q) q.instance (switch_off s t) = λ i. disabled (one_further (archived i)) (archived i).instance (switch_off s t) in
      parts ∙ further ∙ whole ∙ ap (λ (i : Instance). record { catalog = with_switch (one_further q) (switch_off s t); instance = i }) (runs-after s t sound is)
