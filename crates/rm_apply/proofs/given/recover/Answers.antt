use Rattle.std.{specs.Prelude.{IfErr, IfOk}, proofs.Common.{subst, sym}}
use Rattle.rm_evidence.specs.{Place.{FitsPlace}, declared.evidence.InPlace.{InPlace}}
use Rattle.rm_apply.specs.Recover.{FindsGap, IfGap, TellsAll}
use Rattle.rm_apply.proofs.given.recover.Goals as goal

pub recover_from-requires-clause-place : goal.recover_from-requires-clause-place
recover_from-requires-clause-place g c κs within = subst (λ (p : InPlace). FitsPlace c.args.catalog.now p) (sym c.in_ok-copy.ensures) c.requires.place

pub returns-clause-files : goal.returns-clause-files
returns-clause-files g c =
    let held = g.D.Store.held c.args.store.now in
    subst (λ (p : InPlace). IfOk c.recover_from.result (TellsAll held c.args.catalog.now p c.args.i c.args.s)) c.in_ok-copy.ensures c.recover_from.ensures.files

pub returns-clause-gap : goal.returns-clause-gap
returns-clause-gap g c =
    let held = g.D.Store.held c.args.store.now in
    subst (λ (p : InPlace). IfErr c.recover_from.result (λ x. IfGap x (FindsGap held c.args.catalog.now p c.args.i c.args.s))) c.in_ok-copy.ensures c.recover_from.ensures.gap
