use Rattle.rm_catalog_typed.proofs.InTurn.{next-small}
use Rattle.rm_catalog_typed.proofs.catalog.TypedCatalog.next_sequence.Goals as goal

pub returns-clause-some : goal.returns-clause-some
returns-clause-some c = let is = c.self.invariant.ledger in rw (c.next_sequence.ensures, c.deref.ensures.value) (next-small _ c.args.thread is).0
