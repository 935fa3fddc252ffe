use Rattle.std.proofs.Common.{◌+◌, ◌∙◌, List, Some, [], ap, sym, arith, get_or, set}
use Rattle.rm_base.specs.declared.block.Row.{Row}
use Rattle.rm_merge.{specs.Merge.{greater}, proofs.Places.{merged_none, merged_step}}
use Rattle.rm_merge.proofs.merging.merged_rows.Goals as goal

pub loop-new-init : goal.loop-new-init
loop-new-init c = sym (merged_none c.args.copy.items)

pub loop-new-preserved : goal.loop-new-preserved
loop-new-preserved c =
    let none : Row = record { block = 0; version = 0; content = record { 0 = [] } } in
    let new = get_or c.args.level1.now c.loop-new.new-index none in
    ap (λ (r : Row). set c.loop-new.rows.items new.block r) c.greater.ensures
    ∙ ap (λ (xs : List Row). set xs new.block (greater c.index.result.now (Some new))) c.loop-new.invariant
    ∙ merged_step c.args.copy.items c.args.level1.now c.loop-new.new-index (c.loop-new.new-index + 1) none c.index.result.now c.requires.whole c.requires.of (omega arith) c.loop-new-test.true
    (c.index.ensures ∙ ap (λ (xs : List Row). get_or xs new.block c.index.result.now) c.loop-new.invariant)
