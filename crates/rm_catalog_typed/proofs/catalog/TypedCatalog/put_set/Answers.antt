use Rattle.std.proofs.Common.{subst}
use Rattle.rm_catalog_typed.{specs.Facts.{IsTypedCatalog}, proofs.{Changed.{follows_set}, Fitted.{set_fits}}}
use Rattle.rm_catalog_typed.proofs.catalog.TypedCatalog.put_set.Goals as goal

pub invariant_of-self-2 : goal.invariant_of-self-2
invariant_of-self-2 c = rw c.in_ok-put.ensures.put (set_fits _ c.args.set c.self.invariant (rw c.self.view_is c.requires.fits))

pub returns-clause-edits : goal.returns-clause-edits
returns-clause-edits c =
    follows_set _ _ _ _ (subst IsTypedCatalog c.self.view_is c.self.invariant) c.args.set c.requires.fits
    (rw (c.push.ensures.items, c.in_ok-reserve.ensures.items, c.in_ok-copy.ensures)) (rw (c.in_ok-put.ensures.put, ← c.self.view_is))
