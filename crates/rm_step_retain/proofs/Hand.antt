-- What is at hand beside the records of a state, and the retention that goes by it.
use Rattle.std.proofs.Common.{◌≡◌, ◌∙◌, ℕ, List, ap, sym, subst}
use Rattle.rm_base.specs.declared.kinds.Policy.{Policy}
use Rattle.rm_catalog.specs.declared.record.Record.{Record}
use Rattle.rm_evidence.specs.{Place.{FitsPlace}, declared.evidence.{Evidence.{Evidence}, InPlace.{InPlace}}}
use Rattle.rm_catalog_typed.specs.TypedCatalog.{records_of}
use Rattle.rm_retain.specs.Catalogued.{by_records}
use Rattle.rm_machine.specs.{Obsolete.{retention_of, start_by}, Recovery.{in_place}, Sound.{IsSound}, State.{ledger}}
use Rattle.rm_machine.{specs.declared.state.State.{State}, proofs.Fitting.{place-fits}}

module _ (s : State) (rs : List Record) (records : rs ≡ records_of s.catalog) where
  pub fits : IsSound s → (place : InPlace) → place ≡ in_place s → FitsPlace rs place
  fits sound place is = subst (FitsPlace rs) (sym is) (subst (λ (xs : List Record). FitsPlace xs (in_place s)) (sym records) (place-fits s sound))

  pub of-state : (e : Evidence) (policy : Policy) (start : ℕ) → policy ≡ (ledger s).base.policy → start ≡ start_by s policy → by_records rs e policy start ≡ retention_of s e
  of-state e policy start same is =
      ap (λ (xs : List Record). by_records xs e policy start) records ∙ ap (by_records (records_of s.catalog) e policy) is ∙ ap (λ (p : Policy). by_records (records_of s.catalog) e p (start_by s p)) same
