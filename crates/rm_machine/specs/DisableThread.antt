-- ALTER DATABASE DISABLE THREAD t
use Rattle.std.specs.Prelude.{ℕ, ◌≡◌, ◌+◌, ◌==◌, ◌&&◌, not, nat_le, if◌then◌else◌, Bool, true, false, Option, Some, None, List, [], ◌∷◌, ◌++◌, length}
use Rattle.std.specs.List.{list_any}
use Rattle.rm_base.specs.{Numbers.{last_scn}, declared.refusal.Absent.TheVariants.{Thread}}
use Rattle.rm_base.specs.declared.refusal.{Limit.TheVariants.{Bytes, ObjectIds, Records, Sequences}, Refusal.{Refusal}}
use Rattle.rm_base.specs.declared.refusal.{Refusal.TheVariants.{Rm04, Rm05, Rm11, Rm15, Rm16}, ThreadState.TheVariants.{Disabled, Last}}
use Rattle.rm_redo.specs.Online.{has_log, sequence_of, with_disabled}
use Rattle.rm_report.specs.declared.line.Line.{Line, TheVariants.{ThreadSwitched}}
use Rattle.rm_catalog_typed.specs.{Changes.{with_switch}, declared.thread_switch.ThreadSwitch.{ThreadSwitch}}
use Rattle.rm_machine.specs.{Archive.{after_thread, made_by, puts_by, thread_lines}, Effect.{Effect, Outcome, done, no_effect}}
use Rattle.rm_machine.specs.{EnableThread.{is_outside}, Marks.{lacks_bytes, lacks_ids, lacks_room, marks_before, one_further}}
use Rattle.rm_machine.specs.{State.{current_of, now_of}, SwitchLogfile.{is_due, log_bytes}, declared.state.State.{State}}

-- how many logs it archives: that of the thread, where it has something to archive
abbrev pub logs_due : State → ℕ → ℕ
logs_due s t = if is_due s t then 1 else 0

-- no sequence number is left behind that of the thread's log, where that is archived
abbrev pub lacks_sequence : State → ℕ → Bool
lacks_sequence s t = is_due s t && nat_le 4294967295 (sequence_of s.instance.logs t)

-- another of the threads 1 to 4 is enabled
abbrev pub has_other : State → ℕ → Bool
has_other s t = list_any (λ u. not (u == t) && has_log s.instance.logs u) (1 ∷ 2 ∷ 3 ∷ 4 ∷ [])

-- why the thread as it is can't be disabled: it is not enabled, or is the only one that is
abbrev pub last_refusal : State → ℕ → Option Refusal
last_refusal s t =
    if not (has_log s.instance.logs t) then Some (Rm16 t Disabled)
    else if has_other s t then None
    else Some (Rm16 t Last)

-- why it is refused in an open database: the thread can't be there; no record is left for the log, the switch and its mark, no bytes, no id, or
-- no sequence number; or no SCN; or the thread as it is can't be disabled
abbrev pub disabling_refusal : State → ℕ → Option Refusal
disabling_refusal s t =
    if is_outside t then Some (Rm05 (Thread t))
    else if lacks_room s (length (marks_before s) + 1 + logs_due s t) then Some (Rm11 Records)
    else if is_due s t && lacks_bytes s (log_bytes s t) then Some (Rm11 Bytes)
    else if lacks_ids s (logs_due s t) then Some (Rm11 ObjectIds)
    else if lacks_sequence s t then Some (Rm11 Sequences)
    else if nat_le last_scn (now_of s) then Some Rm15
    else last_refusal s t

-- why it is refused
abbrev pub disable_refusal : State → ℕ → Option Refusal
disable_refusal s t = if s.instance.is_open then disabling_refusal s t else Some (Rm04 true)

-- The thread is disabled at `now`. Its next log in the incarnation takes the number behind that of the log that is archived, or else the
-- number of its log, which was empty.
abbrev pub switch_off : State → ℕ → ThreadSwitch
switch_off s t = record { thread = t; inc = current_of s; scn = now_of s; on = false; sequence = sequence_of s.instance.logs t + logs_due s t }

-- the database without the thread's log, which is archived up to `now` if it is not empty, and with the switch, one SCN further
abbrev pub with_thread_off : State → ℕ → State
with_thread_off s t =
    record {
      catalog = with_switch (one_further (after_thread s t)) (switch_off s t);
      instance = record s.instance { logs = with_disabled s.instance.logs t };
    }

-- what it makes: the archived log, if one is due
abbrev pub disabling : State → ℕ → Effect
disabling s t = record no_effect { made = made_by s t; puts = puts_by s t }

-- the line of the log, if one is archived, and that of the switch
abbrev pub disabled_lines : State → ℕ → List Line
disabled_lines s t = thread_lines false s t ++ ThreadSwitched t false (now_of s) ∷ []

-- it disables the thread
abbrev pub IsDisableOutcome : State → ℕ → Outcome → Type 0
IsDisableOutcome s t o = o ≡ done (disabled_lines s t) (disabling s t) (with_thread_off s t)
