use Rattle.std.proofs.Common.{◌≡◌, ◌-◌}
use Rattle.rm_machine.specs.Archive.{is_last_sequence}
use Rattle.rm_step_open.proofs.due.is_last_sequence.Given as goal

abbrev pub invariant-loop-thread : goal.invariant-loop-thread
invariant-loop-thread l = is_last_sequence l.state l.thread (5 - l.thread) ≡ is_last_sequence l.state 1 4
