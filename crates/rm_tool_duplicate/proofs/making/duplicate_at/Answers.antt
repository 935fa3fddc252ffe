use Rattle.std.proofs.Common.{◌≡◌, None, sym, subst}
use Rattle.rm_history.specs.Tree.{IsThere}
use Rattle.rm_machine.specs.{Recovery.{range_refusal}, State.{tree}}
use Rattle.rm_step_recover.proofs.{Records.{fits, never-outside, there}, Targets.{target-range, target-there}}
use Rattle.rm_tool_duplicate.proofs.making.duplicate_at.Goals as goal

pub duplicate_from-requires-clause-place : goal.duplicate_from-requires-clause-place
duplicate_from-requires-clause-place g c κs within =
    fits c.args.state.now c.args.hand.records c.requires.records c.args.hand.place c.requires.place c.requires.sound

pub duplicate_from-requires-clause-there : goal.duplicate_from-requires-clause-there
duplicate_from-requires-clause-there g c κs within =
    let s = c.args.state.now in
    there s c.args.hand.records c.requires.records c.target_inc-inc.result
    (subst (λ i. IsThere (tree s) i) (sym c.target_inc-inc.ensures) (target-there s c.args.said.now.until c.args.said.now.incarnation c.requires.accepted))

pub unreachable-requires : goal.unreachable-requires
unreachable-requires g c =
    let s = c.args.state.now in
    let at = c.args.said.now.until in
    let fault = c.in-Err-Until in
    never-outside s c.args.hand.records c.requires.records c.target_inc-inc.result at fault.field-0-0 fault.field-0-1 fault.field-0 fault.ensures.until fault.field-0-is
    (subst (λ i. range_refusal (tree s) i at ≡ None) (sym c.target_inc-inc.ensures) (target-range s at c.args.said.now.incarnation c.requires.accepted))
