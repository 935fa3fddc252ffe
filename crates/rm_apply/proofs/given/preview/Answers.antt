use Rattle.std.{specs.Prelude.{IfOk}, proofs.Common.{subst, sym}}
use Rattle.rm_evidence.specs.{Place.{FitsPlace}, declared.evidence.InPlace.{InPlace}}
use Rattle.rm_apply.specs.Preview.{Previews}
use Rattle.rm_apply.proofs.given.preview.Goals as goal

pub preview_from-requires-clause-place : goal.preview_from-requires-clause-place
preview_from-requires-clause-place g c κs within = subst (λ (p : InPlace). FitsPlace c.args.catalog.now p) (sym c.in_ok-copy.ensures) c.requires.place

pub returns-clause-previews : goal.returns-clause-previews
returns-clause-previews g c =
    let held = g.D.Store.held c.args.store.now in
    subst (λ (p : InPlace). IfOk c.preview_from.result (λ x. Previews held c.args.catalog.now p c.args.i c.args.s x.0 x.1 x.2)) c.in_ok-copy.ensures c.preview_from.ensures.previews
