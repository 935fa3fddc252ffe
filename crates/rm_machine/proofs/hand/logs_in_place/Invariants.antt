use Rattle.std.proofs.Common.{◌≡◌}
use Rattle.rm_machine.specs.Recovery.{online_logs}
use Rattle.rm_machine.proofs.hand.logs_in_place.Given as goal

abbrev pub invariant-loop-index : goal.invariant-loop-index
invariant-loop-index l = l.logs ≡ online_logs l.state 1 l.index
