use Rattle.std.{specs.Prelude.{IfErr, IfOk}, proofs.Common.{subst, sym}}
use Rattle.rm_apply.specs.Recover.{FindsGap, IfGap}
use Rattle.rm_evidence.specs.{Place.{FitsPlace}, declared.evidence.InPlace.{InPlace}}
use Rattle.rm_dup.specs.Duplicate.{IsDuplicate}
use Rattle.rm_dup.proofs.duplicating.duplicate.Goals as goal

pub duplicate_from-requires-clause-place : goal.duplicate_from-requires-clause-place
duplicate_from-requires-clause-place g c κs within = subst (λ (p : InPlace). FitsPlace c.args.catalog.now p) (sym c.in_ok-copy.ensures) c.requires.place

pub returns-clause-duplicate : goal.returns-clause-duplicate
returns-clause-duplicate g c =
    let held = g.D.Store.held c.args.store.now in
    subst (λ (p : InPlace). IfOk c.duplicate_from.result (IsDuplicate held c.args.catalog.now p c.args.i c.args.s c.args.dbid)) c.in_ok-copy.ensures c.duplicate_from.ensures.duplicate

pub returns-clause-gap : goal.returns-clause-gap
returns-clause-gap g c =
    let held = g.D.Store.held c.args.store.now in
    subst (λ (p : InPlace). IfErr c.duplicate_from.result (λ x. IfGap x (FindsGap held c.args.catalog.now p c.args.i c.args.s))) c.in_ok-copy.ensures c.duplicate_from.ensures.gap
