use Rattle.std.proofs.Common.{arith, subst}
use Rattle.rm_catalog_typed.{specs.Facts.{IsTypedCatalog}, proofs.{Changed.{follows_no_log}, Fitted.{no_log_fits}}}
use Rattle.rm_catalog_typed.proofs.catalog.TypedCatalog.drop_log.Goals as goal

pub invariant_of-self : goal.invariant_of-self
invariant_of-self c = rw c.remove.ensures (no_log_fits _ c.args.id c.self.invariant)

pub returns-clause-edits : goal.returns-clause-edits
returns-clause-edits c =
    let id = c.ranges.id.fits in
    follows_no_log _ _ _ _ (subst IsTypedCatalog c.self.view_is c.self.invariant) c.args.id c.requires.some (omega arith) c.in_ok-push.ensures.items (rw (c.remove.ensures, ← c.self.view_is))
