use Rattle.std.proofs.Common.{◌≡◌, ◌+◌, ◌*◌, ◌≤◌, drop, sum_by}
use Rattle.rm_history.specs.World.{blocks_of}
use Rattle.rm_machine.specs.{Backup.{taken, taken_from}, State.{ledger, world}}
use Rattle.rm_step_backup.proofs.datafiles.taken_blocks.Given as goal

abbrev pub invariant-loop-index : goal.invariant-loop-index
invariant-loop-index l = record {
  sum : l.blocks + sum_by (blocks_of (world l.state)) (taken_from l.state l.form (l.index + 1) (drop l.index (ledger l.state).files)) ≡ sum_by (blocks_of (world l.state)) (taken l.state l.form);
  few : l.blocks ≤ 65536 * l.index;
}
