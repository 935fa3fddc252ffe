use Rattle.std.proofs.Common.{◌∙◌, List, ap, sym, subst, take}
use Rattle.rm_catalog.{specs.{Keys.{InOrder}, Edits.{below}, declared.record.Record.{Record}}, proofs.Passing.{take_below}}
use Rattle.rm_catalog.proofs.edits.cut_at.Goals as goal

pub count_before-n-requires : goal.count_before-n-requires
count_before-n-requires c = subst (λ (x : List Record). InOrder x) (sym c.deref.ensures.value) c.requires

pub returns-clause-items : goal.returns-clause-items
returns-clause-items c =
    let n = c.count_before-n.result in
    c.truncate.ensures.items ∙ ap (λ (x : List Record). take n x) (sym c.deref.ensures.value)
    ∙ take_below c.deref.result.now c.args.place n c.count_before-n.ensures.below c.count_before-n.ensures.above
    ∙ ap (λ (x : List Record). below c.args.place x) c.deref.ensures.value
