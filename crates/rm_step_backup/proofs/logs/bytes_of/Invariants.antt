use Rattle.std.proofs.Common.{◌≡◌, ◌≤◌, ◌*◌, ◌+◌, drop, map, sum_by}
use Rattle.rm_machine.specs.BackupLogs.{file_bytes}
use Rattle.rm_step_backup.proofs.logs.bytes_of.Given as goal

abbrev pub invariant-loop-log : goal.invariant-loop-log
invariant-loop-log l = record {
  sum : l.bytes + sum_by file_bytes (map (λ x. x.1) (drop l.log-index l.logs)) ≡ sum_by file_bytes (map (λ x. x.1) l.logs);
  most : l.bytes ≤ 5242950 * l.log-index;
}
