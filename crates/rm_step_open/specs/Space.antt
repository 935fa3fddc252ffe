-- What one more log in the catalog wants.
use Rattle.std.specs.Prelude.{ℕ, ◌+◌, ◌<◌, ◌≤◌, length}
use Rattle.rm_catalog_typed.specs.Ledger.{ledger_records}
use Rattle.rm_redo.specs.Online.{sequence_of}
use Rattle.rm_machine.specs.{State.{ledger}, declared.state.State.{State}}

-- there is room for a record, an id, and a sequence number for the log that the thread begins anew
pub record HasSpace (s : State) (t : ℕ) : Type 0 where
  pub records : length (ledger_records (ledger s)) + 1 ≤ 65536
  pub ids : (ledger s).base.next_id + 69 ≤ 4294967295
  pub sequence : sequence_of s.instance.logs t < 4294967295
