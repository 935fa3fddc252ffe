use Rattle.std.specs.Prelude.{◌≡◌, ◌<◌, ℕ, Some, true, slice_get}
use Rattle.rm_history.specs.{World.{exists}, declared.world.Datafile.{Datafile}}
use Rattle.rm_machine.specs.{Sound.{StandsAt}, State.{ledger, world}}
use Rattle.rm_session.proofs.point.all_stand.Given as goal

abbrev pub invariant-loop-index : goal.invariant-loop-index
invariant-loop-index l =
    (k : ℕ) (d : Datafile) → k < l.index → slice_get (ledger l.state).files k ≡ Some d → exists (world l.state) l.i l.s d ≡ true → StandsAt l.state.instance.place l.i l.s k
