use Rattle.std.proofs.Common.{◌≡◌, ◌+◌, drop}
use Rattle.rm_machine.specs.{Mount.{first_lost}, State.{ledger, world}}
use Rattle.rm_machine.proofs.facts.first_lost.Given as goal

abbrev pub invariant-loop-index : goal.invariant-loop-index
invariant-loop-index l =
    first_lost (world l.state) l.i l.s (l.index + 1) (drop l.index (ledger l.state).files) (drop l.index l.state.instance.place)
    ≡ first_lost (world l.state) l.i l.s 1 (ledger l.state).files l.state.instance.place
