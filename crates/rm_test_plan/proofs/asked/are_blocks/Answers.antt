use Rattle.std.{specs.List.{AllWithin}, proofs.{Common.{◌≡◌, arith, length, subst}, lemmas.List.Elements.{All-from_all_within}}}
use Rattle.rm_base.specs.declared.block.BlockId.{BlockId}
use Rattle.rm_evidence.specs.Database.{world_of}
use Rattle.rm_history.specs.FirstGap.{IsTarget}
use Rattle.rm_test_plan.proofs.asked.are_blocks.Goals as goal

pub returns : goal.returns
returns c ok =
    let end : c.loop-at.at-index ≡ length c.args.blocks.now = omega arith in
    All-from_all_within (λ (x : BlockId). IsTarget (world_of c.args.catalog.now) c.args.i c.args.s x.file x.block) c.args.blocks.now
    (subst (λ n. AllWithin (λ (x : BlockId). IsTarget (world_of c.args.catalog.now) c.args.i c.args.s x.file x.block) c.args.blocks.now 0 n) end c.loop-at.invariant)
