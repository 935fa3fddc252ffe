use Rattle.std.proofs.Common.{◌≡◌, ◌++◌, map, take}
use Rattle.rm_repair.specs.Jobs.{job_of}
use Rattle.rm_repair.proofs.jobs.add_jobs.Given as goal

abbrev pub invariant-loop-part : goal.invariant-loop-part
invariant-loop-part l = l.jobs.items ≡ l.fn.jobs.items ++ map (job_of l.file) (take l.part-index l.parts)
