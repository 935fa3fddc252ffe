use Rattle.rm_evidence.specs.{Known.{known_of}, Database.{world_of}}
use Rattle.rm_plan.proofs.Firsts.{determined_more}
use Rattle.rm_plan.proofs.first.gap_of_blocks.Goals as goal

pub loop-block-preserved : goal.loop-block-preserved
loop-block-preserved c =
    let told = c.in-Ok.field-0 in
    determined_more (world_of c.args.catalog.now) (known_of c.args.evidence.now) c.args.i c.args.s c.args.file c.loop-block.block c.loop-block.invariant
    (record { version = told.version; content = told.content; is = c.in-Ok.ensures.told.determined })
