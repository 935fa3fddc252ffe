use Rattle.std.proofs.Common.{◌≡◌, ◌++◌, map, take}
use Rattle.rm_step_repair.specs.Told.{mended_line}
use Rattle.rm_step_repair.proofs.lines.push_mends.Given as goal

abbrev pub invariant-loop-job : goal.invariant-loop-job
invariant-loop-job l = l.lines ≡ l.fn.lines ++ map mended_line (take l.job-index l.jobs)
