-- HOST LOSE LOG THREAD t
use Rattle.std.specs.Prelude.{ℕ, ◌≡◌, if◌then◌else◌, Option, Some, [], ◌∷◌}
use Rattle.rm_base.specs.declared.refusal.{Refusal.{Refusal, TheVariants.{Rm05}}, Absent.TheVariants.{Thread}}
use Rattle.rm_redo.specs.Online.{counted_as, with_loss}
use Rattle.rm_report.specs.declared.line.Line.TheVariants.{LogLost}
use Rattle.rm_catalog_typed.specs.Switches.{enabled_at}
use Rattle.rm_machine.specs.{Effect.{Outcome, done, no_effect}, Marks.{ids_refusal}, Mount.{as_mounted}}
use Rattle.rm_machine.specs.{State.{ledger, current_of, is_no_thread, now_of}, declared.state.State.{State}}

-- why it is refused: the thread has no online log
abbrev pub lose_log_refusal : State → ℕ → Option Refusal
lose_log_refusal s t = if is_no_thread s t then Some (Rm05 (Thread t)) else ids_refusal s

-- the database without the online log of the thread; where all are lost they count as logs of the current incarnation, of the threads that
-- are enabled at its end
abbrev pub without_log : State → ℕ → State
without_log s t = record s { instance = record s.instance { logs = counted_as (with_loss s.instance.logs t) (current_of s) (enabled_at (ledger s) (current_of s) (now_of s)) } }

-- an open database is mounted, and then the log is lost
abbrev pub IsLoseLogOutcome : State → ℕ → Outcome → Type 0
IsLoseLogOutcome s t o = o ≡ done (LogLost t ∷ []) no_effect (without_log (as_mounted s) t)
