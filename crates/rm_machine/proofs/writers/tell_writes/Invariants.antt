use Rattle.std.proofs.Common.{◌≡◌, ◌+◌, ◌++◌, drop}
use Rattle.rm_channel.specs.Jobs.{lists}
use Rattle.rm_machine.specs.BackupOutcome.{write_lines}
use Rattle.rm_machine.proofs.writers.tell_writes.Given as goal

abbrev pub invariant-loop-index : goal.invariant-loop-index
invariant-loop-index l = l.lines ++ write_lines (1 + l.index) (drop l.index (lists l.scns)) ≡ l.fn.lines ++ write_lines 1 (lists l.scns)
