use Rattle.std.proofs.Common.{◌≡◌, ◌+◌, ◌-◌, ◌*◌, ◌≤◌}
use Rattle.rm_machine.specs.Archive.{bytes_from}
use Rattle.rm_step_open.proofs.due.bytes_due.Given as goal

abbrev pub invariant-loop-thread : goal.invariant-loop-thread
invariant-loop-thread l = record {
  sum : l.bytes + bytes_from l.state l.thread (5 - l.thread) ≡ bytes_from l.state 1 4;
  few : l.bytes + 5242950 ≤ 5242950 * l.thread;
}
