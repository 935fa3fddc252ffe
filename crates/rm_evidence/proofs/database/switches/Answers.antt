use Rattle.std.proofs.Common.{◌∙◌, ◌+◌, ◌++◌, List, Option, ap, sym, option_to_list, take}
use Rattle.rm_catalog.{specs.{Switches.{switches}, declared.record.Record.{Record}}, proofs.Switching.{switches_more}}
use Rattle.rm_history.specs.declared.world.Switch.{Switch}
use Rattle.rm_evidence.proofs.database.switches.Goals as goal

pub loop-row-preserved : goal.loop-row-preserved
loop-row-preserved c =
    let rs = c.records-row-items.result.now in
    let k = c.loop-row.row-index in
    let same = c.records-row-items.ensures.records in
    c.in_ok-add_told.ensures
    ∙ ap (λ (xs : List Switch). xs ++ option_to_list c.told_by.result) (c.loop-row.invariant ∙ ap (λ (xs : List Record). switches (take k xs)) (sym same))
    ∙ ap (λ (o : Option Switch). switches (take k rs) ++ option_to_list o) c.told_by.ensures
    ∙ sym (switches_more rs k c.row-item.result c.loop-row-test.true c.row-item.is)
    ∙ ap (λ (xs : List Record). switches (take (k + 1) xs)) same
