use Rattle.std.proofs.Common.{None}
use Rattle.rm_machine.specs.declared.job.Job.{Job}
use Rattle.rm_step_backup.proofs.Copying.{copies-next}
use Rattle.rm_step_backup.proofs.asking.copy_jobs.Goals as goal

abbrev no_job : Job
no_job = record { file = 0; from = None }

pub loop-job-preserved : goal.loop-job-preserved
loop-job-preserved c =
    copies-next c.args.state.now c.args.jobs.now c.loop-job.job-index no_job c.loop-job.all.items c.in_ok-copy_job.field-0 c.push.new.self.items c.loop-job-test.true c.loop-job.invariant c.in_ok-copy_job.ensures c.in_ok-push.ensures.items
