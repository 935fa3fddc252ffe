use Rattle.std.proofs.Common.{◌≡◌, List, arith, ap, ◌∙◌}
use Rattle.rm_history.specs.{Tree.{owner}, declared.tree.Incarnation.{Incarnation}}
use Rattle.rm_evidence.{specs.Database.{world_of}, proofs.{DatabaseWorlds.{is-sound}, Worlds.{is_world}}}
use Rattle.rm_plan.proofs.Determining.{found_below, found_gap, found_told}
use Rattle.rm_plan.proofs.survey.tell_block.Goals as goal

pub first_uncovered-requires-clause-below : goal.first_uncovered-requires-clause-below
first_uncovered-requires-clause-below c =
    let w = world_of c.args.catalog.now in
    let sound = is-sound c.args.catalog.now c.records.ensures.catalog c.requires.database in
    found_below w c.args.evidence.now c.args.at.inc c.args.at.scn c.args.at.file c.args.at.block c.requires.target sound c.requires.fits c.args.survey.now c.requires.survey c.index-entry.result.now c.index-entry.ensures

pub owner_of-requires-clause-scn : goal.owner_of-requires-clause-scn
owner_of-requires-clause-scn c =
    let first = c.in_ok-uncovered.ensures (world_of c.args.catalog.now) c.requires.survey in
    let above = first.above in
    omega (arith, above)

pub returns-clause-told : goal.returns-clause-told
returns-clause-told c =
    let w = world_of c.args.catalog.now in
    let sound = is-sound c.args.catalog.now c.records.ensures.catalog c.requires.database in
    let first = c.in_ok-uncovered.ensures w c.requires.survey in
    found_told w c.args.evidence.now c.args.at.inc c.args.at.scn c.args.at.file c.args.at.block c.requires.target sound c.requires.fits c.args.survey.now c.requires.survey c.index-entry.result.now c.index-entry.ensures c.in_ok-uncovered.uncovered first c.if-uncovered-at.false

pub returns-then-uncovered-at-clause-gap : goal.returns-then-uncovered-at-clause-gap
returns-then-uncovered-at-clause-gap c =
    let w = world_of c.args.catalog.now in
    let sound = is-sound c.args.catalog.now c.records.ensures.catalog c.requires.database in
    let world = is_world c.args.catalog.now c.records.ensures.catalog c.requires.database in
    let first = c.in_ok-uncovered.ensures w c.requires.survey in
    let own : c.owner_of.result ≡ owner w.tree c.args.at.inc c.in_ok-uncovered.uncovered = c.owner_of.ensures ∙ ap (λ (tree : List Incarnation). owner tree c.args.at.inc c.in_ok-uncovered.uncovered) c.tree.ensures in
    found_gap w c.args.evidence.now c.args.at.inc c.args.at.scn c.args.at.file c.args.at.block c.requires.target sound c.requires.fits c.args.survey.now c.requires.survey c.index-entry.result.now c.index-entry.ensures c.in_ok-uncovered.uncovered first c.if-uncovered-at.true world c.owner_of.result own
