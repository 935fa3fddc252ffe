use Rattle.std.proofs.Common.{None, map, take}
use Rattle.rm_machine.specs.declared.job.Job.{Job}
use Rattle.rm_step_backup.{specs.Copying.{StartBelow}, proofs.Copying.{below-all, below-here, switched-next}}
use Rattle.rm_step_backup.proofs.statement.switch_all.Goals as goal

abbrev no_job : Job
no_job = record { file = 0; from = None }

pub switch-requires : goal.switch-requires
switch-requires c =
    let done = map (λ (j : Job). j.file) (take c.loop-job.job-index c.args.jobs.now) in
    below-here c.args.checkpoint c.loop-job.tracker _ (coe 1 0 (i. StartBelow c.args.checkpoint (c.loop-job.invariant i)) (below-all c.args.checkpoint done c.args.tracker.now c.requires))

pub loop-job-preserved : goal.loop-job-preserved
loop-job-preserved c =
    switched-next c.args.checkpoint c.args.jobs.now c.loop-job.job-index no_job c.args.tracker.now c.loop-job.tracker c.switch.new.self c.loop-job-test.true c.loop-job.invariant c.in_ok-switch.ensures.ok
