use Rattle.std.proofs.{Common.{List, All, subst, sym}, lemmas.Option.{IfSome_then}}
use Rattle.rm_catalog.specs.declared.record.Record.{Record}
use Rattle.rm_evidence.specs.{Gathered.{IsGathered}, Known.{AreRecorded, IsRecorded}, Place.{FitsPlace}}
use Rattle.rm_evidence.proofs.{Fitting.{gathered-recorded, level1s-recorded}, Seen.{seen-so, seen-told}}
use Rattle.rm_machine.{specs.Recovery.{in_place}, proofs.Fitting.{gathered-hand, place-fits}}
use Rattle.rm_base.proofs.Conditions.{ok-then}
use Rattle.rm_step_copies.proofs.Hand.{fits-state}
use Rattle.rm_step_copies.proofs.evidence.evidence_of.Goals as goal

pub gather_by-requires-clause-place : goal.gather_by-requires-clause-place
gather_by-requires-clause-place g c κs within =
    let s = c.args.state.now in
    subst (FitsPlace c.args.records.now) (sym c.requires.place) (subst (λ (xs : List Record). FitsPlace xs (in_place s)) (sym c.requires.records) (place-fits s c.requires.sound))

pub returns-clause-at_hand : goal.returns-clause-at_hand
returns-clause-at_hand g c =
    let held = g.D.Store.held c.args.store.now in
    ok-then c.gather_by.result c.gather_by.ensures.gathered (λ e seen.
    IfSome_then held (seen-told held (λ h. IsGathered h c.args.records.now c.args.place e) seen) (λ h is. gathered-hand c.args.state.now c.args.records.now c.args.place h e c.requires.records c.requires.place is))

pub returns-clause-fits : goal.returns-clause-fits
returns-clause-fits g c = ok-then c.gather_by.result c.gather_by.ensures.fits (λ e fits. fits-state c.args.state.now c.args.records.now e c.requires.records fits)

pub returns-clause-recorded : goal.returns-clause-recorded
returns-clause-recorded g c =
    ok-then c.gather_by.result c.gather_by.ensures.gathered (λ e seen.
    subst (λ (rs : List Record). AreRecorded rs e) c.requires.records (seen-so (g.D.Store.held c.args.store.now) seen (λ h is. gathered-recorded h c.args.records.now c.args.place e is)))

pub returns-clause-level1s : goal.returns-clause-level1s
returns-clause-level1s g c =
    ok-then c.gather_by.result c.gather_by.ensures.gathered (λ e seen.
    subst (λ (rs : List Record). All (IsRecorded rs) e.level1s) c.requires.records (seen-so (g.D.Store.held c.args.store.now) seen (λ h is. level1s-recorded h c.args.records.now c.args.place e is)))
