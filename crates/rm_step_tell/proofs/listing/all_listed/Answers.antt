use Rattle.std.proofs.Common.{List}
use Rattle.rm_catalog.specs.declared.record.Record.{Record}
use Rattle.rm_machine.specs.Lists.{IsListed}
use Rattle.rm_report.specs.declared.line.Line.{Line}
use Rattle.rm_verify.proofs.Growing.{end, next}
use Rattle.rm_step_tell.proofs.Listed.{is-of-one, tells}
use Rattle.rm_step_tell.proofs.listing.all_listed.Goals as goal

pub loop-row-preserved : goal.loop-row-preserved
loop-row-preserved c =
    let class = c.args.class in
    let records = c.records-records in
    next (List Line) (λ (rs : List Record). IsListed rs class) (is-of-one class) records.result.now c.args.catalog.now c.loop-row.row-index c.row-item.result c.loop-row.list c.add.new.list c.in_ok-found.found
    records.ensures.records records.ensures.catalog c.loop-row-test.true c.row-item.is c.loop-row.invariant (tells class c.row-item.result c.in_ok-found.found c.in_ok-found.ensures) c.in_ok-add.ensures

pub returns : goal.returns
returns c =
    let class = c.args.class in
    let records = c.records-records in
    end (List Line) (λ (rs : List Record). IsListed rs class) (is-of-one class) records.result.now c.args.catalog.now c.loop-row.row-index c.loop-row.list c.by_id.result
    records.ensures.records c.loop-row.auto.row-index-end c.loop-row-test.false c.loop-row.invariant c.by_id.ensures.same c.by_id.ensures.ascends
