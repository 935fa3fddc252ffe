use Rattle.std.proofs.lemmas.Option.{IfSome_then}
use Rattle.rm_evidence.{specs.Gathered.{IsGathered}, proofs.Seen.{seen-so, seen-told}}
use Rattle.rm_retain.proofs.CopiesLeft.{gathered_ascend}
use Rattle.rm_machine.proofs.Fitting.{gathered-hand}
use Rattle.rm_step_retain.proofs.Hand.{fits}
use Rattle.rm_step_retain.proofs.looking.look.Goals as goal

pub gather_by-requires-clause-place : goal.gather_by-requires-clause-place
gather_by-requires-clause-place g c κs within =
    let hand = c.in_ok-hand.hand in
    fits c.args.state.now hand.records c.in_ok-hand.ensures.records c.requires.sound hand.place c.in_ok-hand.ensures.place

pub returns-clause-at_hand : goal.returns-clause-at_hand
returns-clause-at_hand g c =
    let hand = c.in_ok-hand.hand in
    let e = c.in_ok-evidence.evidence in
    let held = g.D.Store.held c.args.store.now in
    IfSome_then held (seen-told held (λ h. IsGathered h hand.records hand.place e) c.in_ok-evidence.ensures.gathered)
    (λ h at. gathered-hand c.args.state.now hand.records hand.place h e c.in_ok-hand.ensures.records c.in_ok-hand.ensures.place at)

pub returns-clause-ascend : goal.returns-clause-ascend
returns-clause-ascend g c =
    let hand = c.in_ok-hand.hand in
    seen-so (g.D.Store.held c.args.store.now) c.in_ok-evidence.ensures.gathered (λ h at. gathered_ascend h hand.records hand.place c.in_ok-evidence.evidence at)
