use Rattle.std.proofs.Common.{◌≡◌, ◌++◌, length, take, drop}
use Rattle.rm_machine.specs.{Open.{kept_in_place}, State.{ledger, world}}
use Rattle.rm_step_open.proofs.place.keep_in_place.Given as goal

abbrev pub invariant-loop-index : goal.invariant-loop-index
invariant-loop-index l = record {
  many : length l.place.items ≡ length (ledger l.state).files;
  done : take l.index l.place.items ++ kept_in_place (world l.state) l.i l.s (drop l.index (ledger l.state).files) (drop l.index l.place.items) ≡ kept_in_place (world l.state) l.i l.s (ledger l.state).files l.fn.place.items;
}
