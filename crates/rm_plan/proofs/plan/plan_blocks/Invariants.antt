use Rattle.std.proofs.Common.{take}
use Rattle.rm_evidence.specs.{Known.{known_of}, Database.{world_of}}
use Rattle.rm_plan.specs.Chosen.{AreToldParts}
use Rattle.rm_plan.proofs.plan.plan_blocks.Given as goal

abbrev pub invariant-loop-block : goal.invariant-loop-block
invariant-loop-block l = record {
  parts : AreToldParts (world_of l.catalog) (known_of l.evidence) l.i l.s l.file (take l.block-index l.blocks) l.parts;
}
