use Rattle.std.proofs.Common.{◌≡◌, map, take}
use Rattle.rm_machine.specs.{Tracked.{switch_all}, declared.job.Job.{Job}}
use Rattle.rm_step_backup.proofs.statement.switch_all.Given as goal

abbrev pub invariant-loop-job : goal.invariant-loop-job
invariant-loop-job l = l.tracker ≡ switch_all l.checkpoint (map (λ (j : Job). j.file) (take l.job-index l.jobs)) l.fn.tracker
