use Rattle.rm_catalog_typed.proofs.Fitted.{base_fits}
use Rattle.rm_catalog_typed.proofs.catalog.TypedCatalog.set_base.Goals as goal

pub invariant_of-self : goal.invariant_of-self
invariant_of-self c = base_fits _ c.args.base c.self.invariant (rw c.self.view_is c.requires.fits)
