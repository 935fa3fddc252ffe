use Rattle.std.proofs.Common.{◌≡◌, [], ◌∷◌, ◌++◌, arith, rules, subst, sym}
use Rattle.rm_catalog_typed.specs.{Facts.{IsTypedCatalog}, Fitting.{FitsNewLog}, TypedCatalog.{TypedCatalog}}
use Rattle.rm_catalog_typed.proofs.{Changed.{follows_new_log}, Fitted.{new_log_fits}}
use Rattle.rm_catalog_typed.proofs.catalog.TypedCatalog.add_log.Goals as goal

pub overflow_add-self : goal.overflow_add-self
overflow_add-self c = let fits = subst (λ (r : TypedCatalog). FitsNewLog r c.args.log) (sym c.self.view_is) c.requires.fits in omega arith

pub invariant_of-self-2 : goal.invariant_of-self-2
invariant_of-self-2 c =
    let logs : c.push.new.self.items ≡ c.self.inside.logs.items ++ c.args.log ∷ [] = search rules in
    rw logs (new_log_fits _ c.args.log c.self.invariant (rw c.self.view_is c.requires.fits))

pub returns-clause-edits : goal.returns-clause-edits
returns-clause-edits c =
    let logs : c.push.new.self.items ≡ c.self.inside.logs.items ++ c.args.log ∷ [] = search rules in
    follows_new_log _ _ _ _ (subst IsTypedCatalog c.self.view_is c.self.invariant) c.args.log c.requires.fits (search rules) (rw (logs, ← c.self.view_is))
