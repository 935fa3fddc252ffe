use Rattle.std.proofs.Common.{◌∙◌, List, Some, take_all, subst}
use Rattle.rm_catalog.specs.declared.record.Record.{Record}
use Rattle.rm_backup.{specs.{Looking.{TellsFirst}, Records.{pieces}, Taken.{MayBeTaken}}, proofs.Choices.{tells_more, tells_start}}
use Rattle.rm_backup.proofs.copies.last_copy.Goals as goal

pub loop-row-init : goal.loop-row-init
loop-row-init c = tells_start (MayBeTaken c.args.catalog.now c.args.file c.args.tag.now) (Some c.args.tag.now)

pub loop-row-preserved : goal.loop-row-preserved
loop-row-preserved c =
    tells_more (MayBeTaken c.args.catalog.now c.args.file c.args.tag.now) (Some c.args.tag.now) c.records-records.result.now c.loop-row.row-index c.row-item.result c.loop-row.best c.image_copy.result c.first_of-best.result
    c.loop-row-test.true c.row-item.is c.loop-row.invariant c.image_copy.ensures c.first_of-best.ensures

pub returns : goal.returns
returns c =
    subst (λ (rs : List Record). TellsFirst (MayBeTaken c.args.catalog.now c.args.file c.args.tag.now) (pieces rs) c.loop-row.best)
    (take_all c.loop-row.row-index c.records-records.result.now c.loop-row-test.false ∙ c.records-records.ensures.records) c.loop-row.invariant
