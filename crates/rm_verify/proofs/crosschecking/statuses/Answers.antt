use Rattle.std.proofs.Common.{List}
use Rattle.rm_base.specs.declared.kinds.Status.{Status}
use Rattle.rm_catalog.specs.declared.record.Record.{Record}
use Rattle.rm_verify.{specs.Crosscheck.{IsChecked, is_among}, proofs.{Checked.{is-of-one, tells}, Growing.{end, next}}}
use Rattle.rm_verify.proofs.crosschecking.statuses.Goals as goal

pub loop-row-preserved : goal.loop-row-preserved
loop-row-preserved c =
    let stands = is_among c.args.names.now in
    let class = c.args.class in
    let records = c.records-records in
    next Status (λ (rs : List Record). IsChecked stands rs class) (is-of-one stands class) records.result.now c.args.catalog.now c.loop-row.row-index c.row-item.result c.loop-row.list c.add.new.list c.in_ok-found.found
    records.ensures.records records.ensures.catalog c.loop-row-test.true c.row-item.is c.loop-row.invariant (tells stands class c.row-item.result c.in_ok-found.found c.in_ok-found.ensures) c.in_ok-add.ensures

pub returns : goal.returns
returns c =
    let stands = is_among c.args.names.now in
    let class = c.args.class in
    let records = c.records-records in
    end Status (λ (rs : List Record). IsChecked stands rs class) (is-of-one stands class) records.result.now c.args.catalog.now c.loop-row.row-index c.loop-row.list c.by_id.result
    records.ensures.records c.loop-row.auto.row-index-end c.loop-row-test.false c.loop-row.invariant c.by_id.ensures.same c.by_id.ensures.ascends
