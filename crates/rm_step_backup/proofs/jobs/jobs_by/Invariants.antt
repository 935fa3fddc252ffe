use Rattle.std.{specs.Option.{option_copied}, proofs.Common.{take}}
use Rattle.rm_step_backup.specs.Begins.{AreJobsBy}
use Rattle.rm_step_backup.proofs.jobs.jobs_by.Given as goal

abbrev pub invariant-loop-file : goal.invariant-loop-file
invariant-loop-file l = AreJobsBy (option_copied l.records) l.form (take l.file-index l.files) l.jobs.items
