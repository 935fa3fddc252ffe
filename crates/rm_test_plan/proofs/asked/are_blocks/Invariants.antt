use Rattle.std.specs.List.{AllWithin}
use Rattle.rm_evidence.specs.Database.{world_of}
use Rattle.rm_history.specs.FirstGap.{IsTarget}
use Rattle.rm_test_plan.proofs.asked.are_blocks.Given as goal

abbrev pub invariant-loop-at : goal.invariant-loop-at
invariant-loop-at l = AllWithin (λ x. IsTarget (world_of l.catalog) l.i l.s x.file x.block) l.blocks 0 l.at-index
