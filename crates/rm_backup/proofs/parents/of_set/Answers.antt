use Rattle.std.proofs.{Common.{◌≡◌, ◌∙◌, false, true, None, refl, take_all}, lemmas.List.Elements.{All-more, Contains-get_or}}
use Rattle.rm_catalog.specs.{Keys.{part_piece}, declared.record.SetPart.{SetPart}}
use Rattle.rm_backup.{specs.Parents.{MayBeParent}, proofs.Choices.{tells_no_set, tells_set}}
use Rattle.rm_backup.proofs.parents.of_set.Goals as goal

pub returns-then-may_be_parent : goal.returns-then-may_be_parent
returns-then-may_be_parent c =
    let parts = c.as_slice-part-items in
    tells_set (MayBeParent c.args.catalog.now c.args.file c.args.cumulative None) c.args.set.now parts.result.now _ parts.ensures (Contains-get_or parts.result.now c.loop-part.part-index _ c.loop-part-test.true) (c.if-may_be_parent.ensures.0 refl)

pub loop-part-preserved : goal.loop-part-preserved
loop-part-preserved c =
    All-more (λ (p : SetPart). ¬ MayBeParent c.args.catalog.now c.args.file c.args.cumulative None (part_piece c.args.set.now p)) c.as_slice-part-items.result.now c.loop-part.part-index _
    c.loop-part-test.true c.loop-part.invariant (λ passes. let both : false ≡ true = c.if-may_be_parent.ensures.1 passes in absurd cc)

pub returns : goal.returns
returns c =
    let parts = c.as_slice-part-items in
    tells_no_set (MayBeParent c.args.catalog.now c.args.file c.args.cumulative None) c.args.set.now _ (take_all c.loop-part.part-index parts.result.now c.loop-part-test.false ∙ parts.ensures) c.loop-part.invariant
