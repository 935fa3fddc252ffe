use Rattle.std.proofs.Common.{take}
use Rattle.rm_step_backup.specs.Copying.{AreCopiesOf}
use Rattle.rm_step_backup.proofs.asking.copy_jobs.Given as goal

abbrev pub invariant-loop-job : goal.invariant-loop-job
invariant-loop-job l = AreCopiesOf l.state (take l.job-index l.jobs) l.all.items
