-- ALTER DATABASE ENABLE THREAD t
use Rattle.std.specs.Prelude.{ℕ, ◌≡◌, ◌+◌, ◌==◌, ◌||◌, nat_lt, nat_le, if◌then◌else◌, Bool, true, Option, Some, None, [], ◌∷◌, length}
use Rattle.rm_base.specs.{Numbers.{last_scn}, declared.refusal.{Absent.TheVariants.{Thread}, Limit.TheVariants.{ObjectIds, Records}}}
use Rattle.rm_base.specs.declared.refusal.{Refusal.{Refusal, TheVariants.{Rm04, Rm05, Rm11, Rm15, Rm16}}, ThreadState.TheVariants.{Enabled}}
use Rattle.rm_redo.specs.Online.{has_log, with_enabled}
use Rattle.rm_report.specs.declared.line.Line.TheVariants.{ThreadSwitched}
use Rattle.rm_catalog_typed.specs.{Changes.{with_switch}, Switches.{next_sequence}, declared.thread_switch.ThreadSwitch.{ThreadSwitch}}
use Rattle.rm_machine.specs.{Effect.{Outcome, done, no_effect}, Marks.{lacks_ids, lacks_room, marks_before, one_further}}
use Rattle.rm_machine.specs.{State.{current_of, ledger, now_of}, declared.state.State.{State}}

-- no redo thread can have this number
abbrev pub is_outside : ℕ → Bool
is_outside t = (t == 0) || nat_lt 4 t

-- why it is refused in an open database: the thread can't be there, no record is left for the switch and its mark, no id, or no SCN; or it
-- is enabled
abbrev pub enabling_refusal : State → ℕ → Option Refusal
enabling_refusal s t =
    if is_outside t then Some (Rm05 (Thread t))
    else if lacks_room s (length (marks_before s) + 1) then Some (Rm11 Records)
    else if lacks_ids s 0 then Some (Rm11 ObjectIds)
    else if nat_le last_scn (now_of s) then Some Rm15
    else if has_log s.instance.logs t then Some (Rm16 t Enabled)
    else None

-- why it is refused
abbrev pub enable_refusal : State → ℕ → Option Refusal
enable_refusal s t = if s.instance.is_open then enabling_refusal s t else Some (Rm04 true)

-- the thread is enabled at `now`, where its log begins with the sequence number that is its next in the incarnation
abbrev pub switch_on : State → ℕ → ThreadSwitch
switch_on s t = record { thread = t; inc = current_of s; scn = now_of s; on = true; sequence = next_sequence (ledger s) t }

-- the database with the switch and the thread's empty log, one SCN further
abbrev pub with_thread_on : State → ℕ → State
with_thread_on s t =
    record {
      catalog = with_switch (one_further s) (switch_on s t);
      instance = record s.instance { logs = with_enabled s.instance.logs t (now_of s) (next_sequence (ledger s) t) };
    }

-- it enables the thread
abbrev pub IsEnableOutcome : State → ℕ → Outcome → Type 0
IsEnableOutcome s t o = o ≡ done (ThreadSwitched t true (now_of s) ∷ []) no_effect (with_thread_on s t)
