use Rattle.std.proofs.Common.{take}
use Rattle.rm_live.specs.Passes.{IsLater}
use Rattle.rm_channel.specs.Made.{Did}
use Rattle.rm_repair.specs.Mended.{mended}
use Rattle.rm_repair.proofs.mending.mend_all.Given as goal

abbrev pub invariant-loop-job : goal.invariant-loop-job
invariant-loop-job g l = IsLater l.fn.pass l.pass × Did l.fn.pass l.pass.seen (mended (take l.job-index l.jobs))
