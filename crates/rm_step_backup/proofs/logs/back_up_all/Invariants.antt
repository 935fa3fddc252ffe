use Rattle.std.proofs.Common.{drop}
use Rattle.rm_step_backup.proofs.LogBackups.{IsUnderWay}
use Rattle.rm_step_backup.proofs.logs.back_up_all.Given as goal

abbrev pub invariant-loop-log : goal.invariant-loop-log
invariant-loop-log l = IsUnderWay l.fn.state l.logs (drop l.log-index l.logs) l.fn.edits.items l.edits.items l.fn.handed l.handed l.state
