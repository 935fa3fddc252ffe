-- DISABLE THREAD: its log is archived if it is not empty, the switch fits, and the database stays sound.
use Rattle.std.specs.List.{list_any}
use Rattle.std.proofs.Common.{◌≡◌, ◌<◌, ◌≤◌, ◌+◌, ◌∙◌, ◌==◌, ◌&&◌, not, nat_le, ℕ, [], ◌∷◌, None, Bool, true, false, cond, refl, ap, subst, arith, length}
use Rattle.std.proofs.lemmas.Bool.{leb-false, ltb-false}
use Rattle.rm_base.{specs.Numbers.{last_scn}, proofs.Conditions.{only-where, unless}}
use Rattle.rm_catalog_typed.specs.{Changes.{with_switch}, Fitting.{FitsSwitch}, Ledger.{ledger_records}}
use Rattle.rm_redo.{specs.Online.{IsThread, has_log, sequence_of, with_disabled}, proofs.Logs.{around-switched}}
use Rattle.rm_machine.specs.Archive.{after_thread}
use Rattle.rm_machine.specs.DisableThread.{disable_refusal, has_other, lacks_sequence, logs_due, switch_off, with_thread_off}
use Rattle.rm_machine.specs.{EnableThread.{is_outside}, Marks.{lacks_bytes, lacks_ids, lacks_room, marks_before, one_further}}
use Rattle.rm_machine.specs.{Sound.{IsSound}, State.{current_of, ledger, now_of, online, redo_end}}
use Rattle.rm_machine.specs.{SwitchLogfile.{is_due, log_bytes, log_entry, with_archived}, declared.state.State.{State}}
use Rattle.rm_machine.proofs.{Archives.{room-one, thread-either}, Further.{roomy}, NewObjects.{count-logged}}
use Rattle.rm_machine.proofs.{Switching.{CanArchive, due-parts, sound-after}, Threads.{disabled-switched, number-within, thread-in}}
use Rattle.rm_machine.proofs.ThreadSwitches.{CanSwitch, sound-switched, switch-fits}
use Rattle.rm_machine.proofs.ThreadSwitches as switching

-- what was not refused
pub record IsAccepted (s : State) (t : ℕ) : Type 0 where
  pub opened : s.instance.is_open ≡ true
  pub room : length (ledger_records (ledger s)) + (length (marks_before s) + 1 + logs_due s t) ≤ 65536
  pub ids : (ledger s).base.next_id + logs_due s t + 68 ≤ 4294967295
  pub full : lacks_sequence s t ≡ false
  pub below : now_of s < last_scn
  pub there : IsThread s.instance.logs t
  pub number : t ≤ 4
  pub other : has_other s t ≡ true

not-not : (b : Bool) → not b ≡ false → b ≡ true
not-not true is = refl
not-not false is = absurd (cc)

pub accepted : (s : State) (t : ℕ) → IsSound s → disable_refusal s t ≡ None → IsAccepted s t
accepted s t sound is =
    let n = length (marks_before s) + 1 + logs_due s t in
    let mode = only-where s.instance.is_open _ _ is in
    let number = unless (is_outside t) _ _ mode.1 in
    let room = unless (lacks_room s n) _ _ number.1 in
    let bytes = unless (is_due s t && lacks_bytes s (log_bytes s t)) _ _ room.1 in
    let ids = unless (lacks_ids s (logs_due s t)) _ _ bytes.1 in
    let full = unless (lacks_sequence s t) _ _ ids.1 in
    let scn = unless (nat_le last_scn (now_of s)) _ _ full.1 in
    let has = unless (not (has_log s.instance.logs t)) _ _ scn.1 in
    let range = number-within 4 t number.0 in
    record {
      opened = mode.0;
      room = roomy n (length (ledger_records (ledger s))) room.0 sound.catalog.ledger.few;
      ids = ltb-false 4294967295 ((ledger s).base.next_id + logs_due s t + 68) ids.0;
      full = full.0;
      below = leb-false last_scn (now_of s) scn.0;
      there = thread-in s.instance.logs t range.0 (not-not (has_log s.instance.logs t) has.0);
      number = range.1;
      other = (only-where (has_other s t) None _ has.1).0;
    }

module _ (s : State) (t : ℕ) (sound : IsSound s) (is : disable_refusal s t ≡ None) where
  abbrev ok : IsAccepted s t
  ok = accepted s t sound is

  -- the sequence number that its next log takes
  abbrev pub number : ℕ
  number = sequence_of s.instance.logs t + logs_due s t

  not-last : is_due s t ≡ true → sequence_of s.instance.logs t < 4294967295
  not-last due = leb-false 4294967295 (sequence_of s.instance.logs t) (subst (λ b. (b && nat_le 4294967295 (sequence_of s.instance.logs t)) ≡ false) due ok.full)

  -- its log can be archived, where that is due
  pub can-archive : is_due s t ≡ true → CanArchive s t
  can-archive due =
      let parts = due-parts s t due in
      let one : logs_due s t ≡ 1 = ap (λ b. cond b 1 0) due in
      record {
        roomy = room-one s (omega (arith, one, ok.room));
        ids = omega (arith, one, ok.ids);
        sequence = not-last due;
        there = ok.there;
        found = parts.found;
        some = parts.some;
      }

  pub after-due : IsSound (after_thread s t)
  after-due = thread-either IsSound s t (is_due s t) (λ due. sound-after s t sound (can-archive due)) (λ _. sound)

  others-after : has_other (with_archived s t) t ≡ has_other s t
  others-after = λ j. list_any (λ u. not (u == t) && (around-switched s.instance.logs t (redo_end s)).there u j) (1 ∷ 2 ∷ 3 ∷ 4 ∷ [])

  ready : (b : Bool) → is_due s t ≡ b → CanSwitch (cond b (with_archived s t) s) t false (sequence_of s.instance.logs t + cond b 1 0)
  ready true due =
      let one : logs_due s t ≡ 1 = ap (λ b. cond b 1 0) due in
      let more = count-logged s (with_archived s t).instance (log_entry (ledger s).base.next_id (online s t)) in
      record {
        goes = record { opened = ok.opened; room = omega (arith, one, more, ok.room); below = ok.below };
        room = omega (arith, one, more, ok.room);
        thread = (ok.there.0, ok.number);
        changes = (around-switched s.instance.logs t (redo_end s)).there t ∙ ok.there.2;
        leaves = others-after ∙ ok.other;
        sequence = (omega arith, omega (arith, not-last due));
      }
  ready false due =
      let log = (sound.logs.each t ok.there ((sound.in_open ok.opened).found t ok.there)).valid.sequence in
      let none : logs_due s t ≡ 0 = ap (λ b. cond b 1 0) due in
      record {
        goes = record { opened = ok.opened; room = omega (arith, none, ok.room); below = ok.below };
        room = omega (arith, none, ok.room);
        thread = (ok.there.0, ok.number);
        changes = ok.there.2;
        leaves = ok.other;
        sequence = (omega (arith, log.0), omega (arith, log.1));
      }

  pub can-disable : CanSwitch (after_thread s t) t false number
  can-disable = ready (is_due s t) refl

  same-after : {X : Type 0} (f : State → X) → f (with_archived s t) ≡ f s → f (after_thread s t) ≡ f s
  same-after f same = thread-either (λ q. f q ≡ f s) s t (is_due s t) (λ _. same) (λ _. refl)

  pub current-after : current_of (after_thread s t) ≡ current_of s
  current-after = same-after current_of refl

  pub now-after : now_of (after_thread s t) ≡ now_of s
  now-after = same-after now_of refl

  -- what runs is the same without the log of the thread
  pub runs-after : record (after_thread s t).instance { logs = with_disabled (after_thread s t).instance.logs t } ≡ record s.instance { logs = with_disabled s.instance.logs t }
  runs-after =
      same-after (λ q. record q.instance { logs = with_disabled q.instance.logs t })
      (ap (λ logs. record s.instance { logs = logs }) (disabled-switched s.instance.logs t (redo_end s) ok.there.0 ok.there.1))

  pub disabling-fits : FitsSwitch (one_further (after_thread s t)) (switch_off s t)
  disabling-fits =
      coe 0 1 (j. FitsSwitch (one_further (after_thread s t)) (record { thread = t; inc = current-after j; scn = now-after j; on = false; sequence = number }))
      (switch-fits (after_thread s t) t false number after-due can-disable)

  -- what is so once the switch is off is so of the database without the thread
  pub brought : (P : State → Type 0) → P (switching.q (after_thread s t) t false number after-due can-disable) → P (with_thread_off s t)
  brought P is =
      coe 0 1 (j. P (record {
        catalog = with_switch (one_further (after_thread s t)) (record { thread = t; inc = current-after j; scn = now-after j; on = false; sequence = number });
        instance = runs-after j;
      })) is

  pub sound-disabled : IsSound (with_thread_off s t)
  sound-disabled = brought IsSound (sound-switched (after_thread s t) t false number after-due can-disable)
