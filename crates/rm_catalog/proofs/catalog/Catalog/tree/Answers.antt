use Rattle.std.proofs.Common.{◌≡◌, ◌∙◌, ◌<◌, length, List, [], ◌∷◌, None, sym, subst, arith}
use Rattle.rm_history.specs.declared.tree.Incarnation.{Incarnation}
use Rattle.rm_catalog.{specs.{Rules.{HasDatabase}, Trees.{nodes, as_tree}, declared.record.Record.{Record}}, proofs.Trees.{some_node}}
use Rattle.rm_catalog.proofs.catalog.Catalog.tree.Goals as goal

no_tree : (ns : List Incarnation) → as_tree ns ≡ None → 0 < length ns → ⊥
no_tree [] none some = omega arith
no_tree (n ∷ ns) none some = absurd cc

pub unreachable-requires : goal.unreachable-requires
unreachable-requires c =
    no_tree (nodes c.self.inside.records.items) (sym c.self.invariant.tree ∙ c.in-None.is)
    (some_node c.self.inside.records.items c.self.invariant.catalog (subst (λ (x : List Record). HasDatabase x) (sym c.self.view_is) c.requires.database))
