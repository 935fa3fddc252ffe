use Rattle.std.proofs.Common.{◌≡◌, ◌≤◌, ◌*◌, ◌+◌, drop, sum_by}
use Rattle.rm_machine.specs.RecoverCopy.{copy_bytes}
use Rattle.rm_step_copies.proofs.limits.bytes_of.Given as goal

abbrev pub invariant-loop-copy : goal.invariant-loop-copy
invariant-loop-copy l = record {
  sum : l.bytes + sum_by copy_bytes (drop l.copy-index l.copies) ≡ sum_by copy_bytes l.copies;
  most : l.bytes ≤ 4980818 * l.copy-index;
}
