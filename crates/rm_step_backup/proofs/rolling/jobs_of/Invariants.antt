use Rattle.std.proofs.Common.{◌≡◌, take}
use Rattle.rm_step_backup.specs.Increments.{jobs_of}
use Rattle.rm_step_backup.proofs.rolling.jobs_of.Given as goal

abbrev pub invariant-loop-file : goal.invariant-loop-file
invariant-loop-file l = l.jobs.items ≡ jobs_of l.scn (take l.file-index l.files)
