use Rattle.std.proofs.Common.{◌≡◌, ◌+◌, ◌-◌, ◌≤◌}
use Rattle.rm_machine.specs.Archive.{due_from}
use Rattle.rm_step_open.proofs.due.logs_due.Given as goal

abbrev pub invariant-loop-thread : goal.invariant-loop-thread
invariant-loop-thread l = record {
  sum : l.due + due_from l.state l.thread (5 - l.thread) ≡ due_from l.state 1 4;
  few : l.due + 1 ≤ l.thread;
}
