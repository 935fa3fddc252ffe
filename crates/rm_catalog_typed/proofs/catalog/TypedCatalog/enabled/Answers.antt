use Rattle.rm_catalog_typed.proofs.InTurn.{turns-late}
use Rattle.rm_catalog_typed.proofs.catalog.TypedCatalog.enabled.Goals as goal

pub last_switch-requires-clause-late : goal.last_switch-requires-clause-late
last_switch-requires-clause-late c = let is = c.self.invariant.ledger in rw c.deref.ensures.value (turns-late _ _ _ is.incarnations is.switches)
