use Rattle.std.proofs.Common.{◌≡◌, [], ◌∷◌, ◌++◌, ap, rules, subst, sym}
use Rattle.rm_catalog.specs.declared.record.Edit.TheVariants.{Put}
use Rattle.rm_history.specs.Tree.{parent_of, reset_of, with_end}
use Rattle.rm_catalog_typed.specs.{Ledger.{incarnation_record}, Facts.{IsTypedCatalog}, TypedCatalog.{TypedCatalog}}
use Rattle.rm_catalog_typed.proofs.{Changed.{follows_end}, Fitted.{end_fits}}
use Rattle.rm_catalog_typed.proofs.catalog.TypedCatalog.raise_end.Goals as goal

pub invariant_of-self : goal.invariant_of-self
invariant_of-self c =
    let same = ap (λ (r : TypedCatalog). r.ledger.tree) (sym c.self.view_is) in
    let tree : c.set_end.new.self ≡ with_end c.self.inside.tree c.args.inc c.args.end = search rules in
    rw tree (end_fits _ c.args.inc c.args.end c.self.invariant (rw same at c.requires.there) (rw same at c.requires.up) c.requires.last)

pub returns-clause-edits : goal.returns-clause-edits
returns-clause-edits c =
    let old = c.args.self.now.ledger.tree in
    let tree : c.set_end.new.self ≡ with_end c.self.inside.tree c.args.inc c.args.end = search rules in
    let items : c.push.new.self.items ≡ c.args.edits.now.items ++ Put (incarnation_record c.args.inc (record { parent = parent_of old c.args.inc; reset = reset_of old c.args.inc; end = c.args.end })) ∷ [] = search rules in
    follows_end _ _ _ _ (subst IsTypedCatalog c.self.view_is c.self.invariant) c.args.inc c.args.end c.requires.there c.requires.up c.requires.last items (rw (tree, ← c.self.view_is))
