use Rattle.std.proofs.Common.{◌≡◌, None, ap, subst, sym}
use Rattle.rm_apply.specs.Recover.{until_in}
use Rattle.rm_catalog.specs.declared.record.BaseEntry.{BaseEntry}
use Rattle.rm_history.specs.Tree.{IsThere}
use Rattle.rm_machine.specs.{Recovery.{range_refusal}, State.{tree}}
use Rattle.rm_step_recover.proofs.Records.{fits, there, within}
use Rattle.rm_step_recover.proofs.restoring.from_backups.Goals as goal

pub restore_from-requires-clause-place : goal.restore_from-requires-clause-place
restore_from-requires-clause-place g c κs within =
    let hand = c.in_ok-hand.hand in
    fits c.args.state.now hand.records c.in_ok-hand.ensures.records hand.place c.in_ok-hand.ensures.place c.requires.sound

pub restore_from-requires-clause-there : goal.restore_from-requires-clause-there
restore_from-requires-clause-there g c κs within =
    let s = c.args.state.now in
    let current = ap (λ (b : BaseEntry). b.current) c.base-current.ensures.value in
    there s c.in_ok-hand.hand.records c.in_ok-hand.ensures.records c.base-current.result.current (subst (IsThere (tree s)) (sym current) c.requires.sound.catalog.ledger.current)

pub fault_of-requires-clause-range : goal.fault_of-requires-clause-range
fault_of-requires-clause-range g c =
    let s = c.args.state.now in
    let current = ap (λ (b : BaseEntry). b.current) c.base-current.ensures.value in
    within s c.in_ok-hand.hand.records c.in_ok-hand.ensures.records c.base-current.result.current c.args.at (until_in c.in-Err.fault) c.in-Err.ensures.until
    (subst (λ i. range_refusal (tree s) i c.args.at ≡ None) (sym current) c.requires.range)
