use Rattle.std.proofs.Common.{map, take}
use Rattle.rm_evidence.specs.Database.{world_of}
use Rattle.rm_apply.specs.Preview.{AreOrigins}
use Rattle.rm_apply.proofs.previewing.origins.Given as goal

abbrev pub invariant-loop-target : goal.invariant-loop-target
invariant-loop-target l = AreOrigins (world_of l.catalog) l.evidence.bases l.i l.s (map (λ x. x.number) (take l.target-index l.targets)) l.origins
