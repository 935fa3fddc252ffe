use Rattle.rm_step_tell.proofs.Dumped.{row-told}
use Rattle.rm_step_tell.proofs.dumping.dump.Goals as goal

pub placed_row-requires : goal.placed_row-requires
placed_row-requires c = (row-told c.args.state.now c.args.file c.args.block c.requires.sound c.requires.accepted).number.0

pub unreachable-requires : goal.unreachable-requires
unreachable-requires c =
    let told = row-told c.args.state.now c.args.file c.args.block c.requires.sound c.requires.accepted in
    let missing = c.placed_row.ensures in
    let is = told.is in
    absurd (cc)
