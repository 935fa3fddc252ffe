use Rattle.std.proofs.Common.{◌≡◌, ◌+◌, ◌≤◌, drop, length}
use Rattle.rm_machine.specs.{Backup.{taken, taken_from}, State.{ledger}}
use Rattle.rm_step_backup.proofs.datafiles.taken_count.Given as goal

abbrev pub invariant-loop-index : goal.invariant-loop-index
invariant-loop-index l = record {
  sum : l.count + length (taken_from l.state l.form (l.index + 1) (drop l.index (ledger l.state).files)) ≡ length (taken l.state l.form);
  few : l.count ≤ l.index;
}
