use Rattle.std.proofs.Common.{◌≡◌, ◌+◌, ℕ, List, [], ◌∷◌, ◌++◌, rules, subst, sym}
use Rattle.rm_catalog.specs.declared.record.SetEntry.{SetEntry}
use Rattle.rm_catalog_typed.specs.{Facts.{IsTypedCatalog}, Fitting.{FitsNewSet}, TypedCatalog.{TypedCatalog}}
use Rattle.rm_catalog_typed.proofs.{Changed.{follows_new_set}, Fitted.{new_set_fits}}
use Rattle.rm_catalog_typed.proofs.catalog.TypedCatalog.add_set.Goals as goal

pub invariant_of-self-2 : goal.invariant_of-self-2
invariant_of-self-2 c =
    let made : ℕ → List SetEntry → TypedCatalog = λ n es. record { ledger = record { base = record c.self.inside.base { next_id = n }; tree = c.self.inside.tree; files = c.self.inside.files.items; logs = c.self.inside.logs.items; pieces = c.self.inside.pieces.items; sets = es; marks = c.self.inside.marks.items; switches = c.self.inside.switches.items }; saved = c.self.inside.saved } in
    let old = made c.self.inside.base.next_id c.self.inside.sets.items in
    let fits : FitsNewSet old c.args.set = subst (λ (r : TypedCatalog). FitsNewSet r c.args.set) (sym c.self.view_is) c.requires.fits in
    let sets : c.push.new.self.items ≡ c.self.inside.sets.items ++ c.args.set ∷ [] = search rules in
    subst (λ (es : List SetEntry). IsTypedCatalog (made (c.args.set.id + 1) es)) (sym sets)
    (subst (λ n. IsTypedCatalog (made (n + 1) (c.self.inside.sets.items ++ c.args.set ∷ []))) (sym fits.id) (new_set_fits old c.args.set c.self.invariant fits))

pub returns-clause-edits : goal.returns-clause-edits
returns-clause-edits c =
    let fits = subst (λ (r : TypedCatalog). FitsNewSet r c.args.set) (sym c.self.view_is) c.requires.fits in
    let sets : c.push.new.self.items ≡ c.self.inside.sets.items ++ c.args.set ∷ [] = search rules in
    follows_new_set _ _ _ _ (subst IsTypedCatalog c.self.view_is c.self.invariant) c.args.set c.requires.fits
    (rw (c.push_both.ensures, c.in_ok-reserve.ensures.items, c.in_ok-copy.ensures, ← c.self.view_is, fits.id)) (rw (sets, ← c.self.view_is, fits.id))
