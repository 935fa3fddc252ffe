-- Of the bases that are gathered, those under an id above 0 are backups of records: what is in place stands under 0.
use Rattle.std.specs.Prelude.{◌↔◌}
use Rattle.std.proofs.Common.{◌≡◌, ◌<◌, ◌++◌, inl, inr, nat_lt, ℕ, List, [], AllPairs, Contains, false, filter, map, sym, ap, subst, arith, ◌∙◌, Bool}
use Rattle.std.proofs.lemmas.Bool.Decides.{nat_tests}
use Rattle.std.proofs.lemmas.List.Elements.{Contains-append_cases, Contains-append_right, filter-append}
use Rattle.std.proofs.lemmas.List.Kept.{AllPairs-filter}
use Rattle.rm_base.{specs.Store.{Held}, proofs.{Lists.{filter_none, map_from}, Standing.{each-in}}}
use Rattle.rm_catalog.{specs.{Rules.{IsCatalog}, declared.record.Record.{Record}}, proofs.Numbering.{obeys}}
use Rattle.rm_catalog.specs.declared.record.Record.TheVariants as kind
use Rattle.rm_evidence.specs.Database.{database_in, dbid_in}
use Rattle.rm_evidence.specs.Gathered.{ByIdAndFile, IsBaseOf, IsGathered, IsPieceAmong, placed, placed_piece}
use Rattle.rm_evidence.specs.declared.evidence.{Evidence.{Evidence}, InPlace.{InPlace}}
use Rattle.rm_piece.specs.declared.piece.Piece.{Piece}

-- what is in place stands under 0
pub placed-under : {A : Type 0} (items : List A) (id : ℕ) (a : A) → Contains (placed items) (id, a) → (id ≡ 0) × Contains items a
placed-under {A} items id a has =
    let found = map_from (λ (x : A). (0, x)) items (id, a) has in
    (sym (ap (λ (p : ℕ × A). p.0) found.is), subst (Contains items) (ap (λ (p : ℕ × A). p.1) found.is) found.held)

module _ (held : Held) (rs : List Record) (place : InPlace) (e : Evidence) (gathered : IsGathered held rs place e) where
  abbrev first : List (ℕ × Piece)
  first = placed (map (placed_piece (dbid_in rs)) place.files)

  -- a base under an id above 0 is the backup of a record
  pub base-recorded : (id : ℕ) (a : Piece) → 0 < id → Contains e.bases (id, a) → IsBaseOf held rs id a
  base-recorded id a some has =
      elim (Contains-append_cases first gathered.bases.rest (id, a) (subst (λ (xs : List (ℕ × Piece)). Contains xs (id, a)) gathered.bases.list has)) [
        | inl here ↦ let none = (placed-under (map (placed_piece (dbid_in rs)) place.files) id a here).0 in absurd (omega (arith, some, none))
        | inr there ↦ (gathered.bases.exact id a).0 there
      ]

  -- and each backup is there
  pub base-gathered : (id : ℕ) (a : Piece) → IsBaseOf held rs id a → Contains e.bases (id, a)
  base-gathered id a is =
      subst (λ (xs : List (ℕ × Piece)). Contains xs (id, a)) (sym gathered.bases.list)
      (Contains-append_right first gathered.bases.rest (id, a) ((gathered.bases.exact id a).1 is))

  -- a record of an object has an id above 0
  recorded-some : (id : ℕ) (a : Piece) → IsCatalog rs → IsPieceAmong held (database_in rs) rs id a → 0 < id
  recorded-some id a catalog (inl own) =
      let number = (obeys rs (kind.Piece own.0) catalog own.1).own.id.number in
      let same = own.2 in
      omega (arith, number, same)
  recorded-some id a catalog (inr of) =
      let number = (obeys rs (kind.Set of.0) catalog of.1).own.id.number in
      let same = of.2 in
      omega (arith, number, same)

  pub backups : (id : ℕ) (a : Piece) → IsCatalog rs → ((0 < id) × Contains e.bases (id, a)) ↔ IsBaseOf held rs id a
  backups id a catalog = (λ both. base-recorded id a both.0 both.1, λ is. (recorded-some id a catalog is.0, base-gathered id a is))

  -- the backups ascend
  pub backups-ascend : AllPairs ByIdAndFile (filter (λ x. nat_lt 0 x.0) e.bases)
  backups-ascend =
      let p : (ℕ × Piece) → Bool = λ x. nat_lt 0 x.0 in
      let none : filter p first ≡ [] = filter_none p first (each-in (λ x. p x ≡ false) first (λ x has.
      let zero-is = (placed-under (map (placed_piece (dbid_in rs)) place.files) x.0 x.1 has).0 in grind (arith, nat_tests))) in
      let list : filter p e.bases ≡ filter p gathered.bases.rest =
      ap (filter p) gathered.bases.list ∙ filter-append p first gathered.bases.rest ∙ ap (λ (xs : List (ℕ × Piece)). xs ++ filter p gathered.bases.rest) none in
      subst (AllPairs ByIdAndFile) (sym list) (AllPairs-filter ByIdAndFile p gathered.bases.rest gathered.bases.ascends)
