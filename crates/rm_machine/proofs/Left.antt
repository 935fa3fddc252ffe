-- Room for records and ids.
use Rattle.std.proofs.Common.{ℕ, ◌+◌, ◌≤◌, length}
use Rattle.rm_catalog_typed.specs.Ledger.{ledger_records}
use Rattle.rm_machine.specs.{State.{ledger}, declared.state.State.{State}}

-- so many records more can be made
pub record HasRoom (s : State) (n : ℕ) : Type 0 where
  pub records : length (ledger_records (ledger s)) + n ≤ 65536
  pub ids : (ledger s).base.next_id + n + 68 ≤ 4294967295
