use Rattle.rm_step_recover.proofs.Records.{fits, never-outside, there}
use Rattle.rm_step_recover.proofs.recovered_files.recovered_at.Goals as goal

pub recover_from-requires-clause-place : goal.recover_from-requires-clause-place
recover_from-requires-clause-place g c κs within =
    let hand = c.in_ok-hand.hand in
    fits c.args.state.now hand.records c.in_ok-hand.ensures.records hand.place c.in_ok-hand.ensures.place c.requires.sound

pub recover_from-requires-clause-there : goal.recover_from-requires-clause-there
recover_from-requires-clause-there g c κs within = there c.args.state.now c.in_ok-hand.hand.records c.in_ok-hand.ensures.records c.args.i c.requires.there

pub unreachable-requires : goal.unreachable-requires
unreachable-requires g c =
    let fault = c.in-Err-Until in
    never-outside c.args.state.now c.in_ok-hand.hand.records c.in_ok-hand.ensures.records c.args.i c.args.at fault.field-0-0 fault.field-0-1 fault.field-0 fault.ensures.until fault.field-0-is c.requires.range
