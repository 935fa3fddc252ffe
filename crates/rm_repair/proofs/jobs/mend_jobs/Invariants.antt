use Rattle.std.proofs.Common.{◌≡◌, ◌++◌, List, length}
use Rattle.rm_base.specs.declared.block.BlockId.{BlockId}
use Rattle.rm_evidence.specs.{Known.{known_of}, Database.{world_of}}
use Rattle.rm_repair.specs.Jobs.{AreMendJobs}
use Rattle.rm_repair.proofs.jobs.mend_jobs.Given as goal

abbrev pub invariant-runs : goal.invariant-runs
invariant-runs l = (done : List BlockId) × (done ++ l.left ≡ l.blocks) × AreMendJobs (world_of l.catalog) (known_of l.evidence) l.i l.s done l.jobs.items

abbrev pub decreases-runs : goal.decreases-runs
decreases-runs l = length l.left
