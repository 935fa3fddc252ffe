use Rattle.std.{specs.Prelude.{IfOk}, proofs.Common.{subst, sym}}
use Rattle.rm_evidence.specs.{Place.{FitsPlace}, declared.evidence.InPlace.{InPlace}}
use Rattle.rm_apply.specs.Restore.{Restores}
use Rattle.rm_apply.proofs.given.restore.Goals as goal

pub restore_from-requires-clause-place : goal.restore_from-requires-clause-place
restore_from-requires-clause-place g c κs within = subst (λ (p : InPlace). FitsPlace c.args.catalog.now p) (sym c.in_ok-copy.ensures) c.requires.place

pub returns-clause-restored : goal.returns-clause-restored
returns-clause-restored g c =
    let held = g.D.Store.held c.args.store.now in
    subst (λ (p : InPlace). IfOk c.restore_from.result (λ x. Restores held c.args.catalog.now p c.args.i c.args.s c.args.file x.0 x.1)) c.in_ok-copy.ensures c.restore_from.ensures.restored
