use Rattle.std.proofs.{Common.{◌≡◌, ◌∙◌, ◌+◌, ◌++◌, ◌∷◌, [], List, take, sym, ap, subst}, lemmas.List.{take_more}}
use Rattle.sqlite_value.specs.Order.{Row}
use Rattle.rm_catalog.specs.declared.record.Record.{Record}
use Rattle.rm_keeper_sql.{specs.Loads.{AreRows}, proofs.Rows.{rows_more}}
use Rattle.rm_keeper_sql.proofs.sql.records_of.Goals as goal

pub loop-row-preserved : goal.loop-row-preserved
loop-row-preserved c =
    let rows = c.args.rows.now in
    let i = c.loop-row.row-index in
    let row = c.row-item.result in
    let more : take i rows ++ row ∷ [] ≡ take (i + 1) rows = ap (λ (x : Row). take i rows ++ x ∷ []) c.row-item.is ∙ sym
    (take_more rows i row c.loop-row-test.true) in
    let made = rows_more c.loop-row.records c.in_ok-record_of.field-0 (take i rows) row c.loop-row.invariant c.in_ok-record_of.ensures.row
    c.in_ok-record_of.ensures.fits in
    subst (λ (rs : List Record). AreRows rs (take (i + 1) rows)) (sym c.in_ok-push.ensures.ok)
    (subst (λ (zs : List Row). AreRows (c.loop-row.records ++ c.in_ok-record_of.field-0 ∷ []) zs) more made)
