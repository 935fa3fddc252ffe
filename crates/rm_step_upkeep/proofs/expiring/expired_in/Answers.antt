use Rattle.std.proofs.Common.{List}
use Rattle.rm_catalog.specs.declared.record.Record.{Record}
use Rattle.rm_machine.specs.Upkeep.{IsExpired}
use Rattle.rm_verify.proofs.Growing.{end, next}
use Rattle.rm_step_upkeep.{specs.Expired.{Alone}, proofs.Listed.{is-of-one, tells}}
use Rattle.rm_step_upkeep.proofs.expiring.expired_in.Goals as goal

pub loop-row-preserved : goal.loop-row-preserved
loop-row-preserved c =
    let class = c.args.class in
    let records = c.records-records in
    next Alone (λ (rs : List Record) id _. IsExpired rs class id) (is-of-one class) records.result.now c.args.catalog.now c.loop-row.row-index c.row-item.result c.loop-row.list c.add.new.list c.expired.result
    records.ensures.records records.ensures.catalog c.loop-row-test.true c.row-item.is c.loop-row.invariant (tells class c.row-item.result c.expired.result c.expired.ensures) c.in_ok-add.ensures

pub returns : goal.returns
returns c =
    let class = c.args.class in
    let records = c.records-records in
    end Alone (λ (rs : List Record) id _. IsExpired rs class id) (is-of-one class) records.result.now c.args.catalog.now c.loop-row.row-index c.loop-row.list c.by_id.result
    records.ensures.records c.loop-row.auto.row-index-end c.loop-row-test.false c.loop-row.invariant c.by_id.ensures.same c.by_id.ensures.ascends
