use Rattle.std.proofs.Common.{List, sym, subst}
use Rattle.rm_catalog.specs.{Keys.{InOrder}, declared.record.Record.{Record}}
use Rattle.rm_catalog.proofs.catalog.Catalog.find.Goals as goal

pub find-requires : goal.find-requires
find-requires c = subst (λ (x : List Record). InOrder x) (sym c.deref.ensures.value) c.self.invariant.catalog.order
