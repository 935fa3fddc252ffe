-- CREATE DATABASE DBID d THREADS n SCN s
use Rattle.std.specs.Prelude.{ℕ, ◌≡◌, nat_lt, if◌then◌else◌, true, Some, None, [], ◌∷◌}
use Rattle.rm_base.specs.{Store.{Held}, declared.refusal.{Refusal.TheVariants.{Rm11}, Limit.TheVariants.{Threads}}}
use Rattle.rm_catalog_typed.specs.Fresh.{fresh}
use Rattle.rm_redo.specs.Online.{fresh_logs}
use Rattle.rm_report.specs.declared.line.Line.TheVariants.{DatabaseAt}
use Rattle.rm_machine.specs.{Effect.{Outcome, refused, done, no_effect}, Machine.{Machine}, declared.state.State.{State}}

-- a new database, which is open
abbrev pub fresh_state : (dbid threads scn moment : ℕ) → State
fresh_state dbid threads scn moment =
    record {
      catalog = record { ledger = fresh dbid threads scn moment; saved = None };
      instance = record { is_open = true; point = None; place = []; logs = fresh_logs dbid 1 threads scn; damaged = []; tracker = [] };
    }

-- the machine of it: nothing was written or recorded
abbrev pub fresh_machine : Held → (dbid threads scn moment : ℕ) → Machine
fresh_machine objects dbid threads scn moment =
    record { state = Some (fresh_state dbid threads scn moment); history = []; objects = objects; made = []; touched = [] }

-- it makes the database, where that has four threads at most
abbrev pub IsCreateOutcome : (dbid threads scn moment : ℕ) → Outcome → Type 0
IsCreateOutcome dbid threads scn moment o =
    o ≡ (if nat_lt 4 threads then refused (Rm11 Threads) else done (DatabaseAt dbid scn ∷ []) no_effect (fresh_state dbid threads scn moment))
