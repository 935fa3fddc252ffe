use Rattle.std.proofs.Common.{List, sym, subst}
use Rattle.rm_catalog.specs.{Keys.{InOrder}, Edits.{after_edits}, Rules.{IsValid, IsCatalog}, declared.record.Record.{Record}}
use Rattle.rm_catalog.proofs.Passing.{order_after_all}
use Rattle.rm_catalog.proofs.catalog.Catalog.apply.Goals as goal

pub tree_after-requires-clause-order : goal.tree_after-requires-clause-order
tree_after-requires-clause-order c = subst (λ (x : List Record). InOrder x) (sym c.deref.ensures.value) c.self.invariant.catalog.order

pub tree_after-requires-clause-catalog : goal.tree_after-requires-clause-catalog
tree_after-requires-clause-catalog c =
    subst (λ (x : List Record). IsCatalog (after_edits c.args.edits.now x)) (sym c.deref.ensures.value) (record {
      order = order_after_all c.args.edits.now c.self.inside.records.items c.self.invariant.catalog.order;
      valid = subst (λ (x : List Record). IsValid (after_edits c.args.edits.now x)) (sym c.self.view_is) c.requires.valid;
    })
