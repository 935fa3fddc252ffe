-- A log is recorded: one record more.
use Rattle.std.proofs.Common.{◌≡◌, ◌+◌, [], ◌∷◌, arith, length, length-append}
use Rattle.rm_catalog.specs.declared.record.LogEntry.{LogEntry}
use Rattle.rm_catalog_typed.{specs.{Ledger.{ledger_records}, Changes.{with_new_log}}, proofs.Fitted.{many}}
use Rattle.rm_machine.specs.{State.{ledger}, declared.state.{Instance.{Instance}, State.{State}}}

-- the database with the record of a log more, for which an id was drawn, and with what runs then
abbrev pub logged : State → Instance → LogEntry → State
logged s i e = record { catalog = with_new_log s.catalog e; instance = i }

pub count-logged : (s : State) (i : Instance) (e : LogEntry) → length (ledger_records (ledger (logged s i e))) ≡ length (ledger_records (ledger s)) + 1
count-logged s i e = omega (arith, many (ledger s), many (ledger (logged s i e)), length-append s.catalog.ledger.logs (e ∷ []))
