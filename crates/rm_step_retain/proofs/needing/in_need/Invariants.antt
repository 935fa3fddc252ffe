use Rattle.std.proofs.Common.{◌≤◌, ◌+◌, length}
use Rattle.rm_apply.{specs.Files.{AreExactly}, proofs.Numbers.{Below}}
use Rattle.rm_machine.specs.Obsolete.{NeedsBackup, retention_of}
use Rattle.rm_step_retain.proofs.needing.in_need.Given as goal

abbrev pub invariant-loop-index : goal.invariant-loop-index
invariant-loop-index l = record {
  exact : AreExactly (Below (NeedsBackup (retention_of l.state l.looked.evidence)) (l.index + 1)) l.files.items;
  few : length l.files.items ≤ l.index;
}
