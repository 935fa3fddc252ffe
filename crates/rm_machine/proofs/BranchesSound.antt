-- What a database has that can branch off at its point.
use Rattle.std.proofs.Common.{◌≡◌, ◌<◌, ℕ, Some, false, length}
use Rattle.rm_catalog_typed.specs.Fitting.{HasRoomFor}
use Rattle.rm_machine.specs.declared.state.State.{State}

-- a mounted database at its point, with room for an incarnation and its mark
pub record CanBranchAt (s : State) (at : ℕ) : Type 0 where
  pub shut : s.instance.is_open ≡ false
  pub here : s.instance.point ≡ Some at
  pub few : length s.catalog.ledger.tree < 256
  pub room : HasRoomFor s.catalog 2
