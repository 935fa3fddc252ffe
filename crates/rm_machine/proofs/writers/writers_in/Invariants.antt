use Rattle.std.proofs.Common.{◌≡◌}
use Rattle.rm_channel.specs.Jobs.{lists}
use Rattle.rm_machine.specs.Asked.{lists_from, asked}
use Rattle.rm_machine.proofs.writers.writers_in.Given as goal

abbrev pub invariant-loop-index : goal.invariant-loop-index
invariant-loop-index l = lists l.writers.items ≡ lists_from 1 l.index (asked l.during)
