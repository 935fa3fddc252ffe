use Rattle.std.{specs.Option.{option_copied}, proofs.Common.{◌∙◌, List, take_all, subst}}
use Rattle.rm_catalog.specs.declared.record.Record.{Record}
use Rattle.rm_backup.{specs.{Looking.{TellsFirst}, Parents.{MayBeParent, among}}, proofs.Choices.{tells_more, tells_start}}
use Rattle.rm_backup.proofs.parents.last.Goals as goal

pub loop-row-init : goal.loop-row-init
loop-row-init c = tells_start (MayBeParent c.args.catalog.now c.args.file c.args.cumulative (option_copied c.args.tag)) (option_copied c.args.tag)

pub loop-row-preserved : goal.loop-row-preserved
loop-row-preserved c =
    let tag = option_copied c.args.tag in
    tells_more (MayBeParent c.args.catalog.now c.args.file c.args.cumulative tag) tag c.records-records.result.now c.loop-row.row-index c.row-item.result c.loop-row.best c.candidate.result c.first_of-best.result
    c.loop-row-test.true c.row-item.is c.loop-row.invariant c.candidate.ensures c.first_of-best.ensures

pub returns : goal.returns
returns c =
    let tag = option_copied c.args.tag in
    subst (λ (rs : List Record). TellsFirst (MayBeParent c.args.catalog.now c.args.file c.args.cumulative tag) (among tag rs) c.loop-row.best)
    (take_all c.loop-row.row-index c.records-records.result.now c.loop-row-test.false ∙ c.records-records.ensures.records) c.loop-row.invariant
