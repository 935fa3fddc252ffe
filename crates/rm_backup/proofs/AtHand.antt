-- What is at hand, by the evidence.
use Rattle.std.specs.{Prelude.{option_and_then}, Option.{option_map}}
use Rattle.std.proofs.Common.{◌≡◌, ◌≢◌, ◌↔◌, ◌≤◌, ◌∙◌, inl, inr, ℕ, List, Option, Some, None, refl, ap, sym, subst, eqb, All, Contains}
use Rattle.std.proofs.lemmas.{Bool.{eqb-true, eq-eqb}, List.Elements.{All-contains}, Option.{same_Some}}
use Rattle.rm_base.{specs.{Store.{Held}, declared.kinds.Kind.TheVariants.{Level1}}, proofs.Lists.{find_cases, find_none}}
use Rattle.rm_catalog.specs.{Keys.{at, piece_in, place as place_of_id}, Rules.{IsCatalog}, declared.record.PieceEntry.{PieceEntry}}
use Rattle.rm_catalog.{specs.declared.record.Record.{Record}, proofs.{ByKinds.{free-in}, Told.{some_is}, Numbering.{at-is, obeys}}}
use Rattle.rm_catalog.specs.declared.record.Record.TheVariants as records
use Rattle.rm_evidence.specs.{Available.{HasPieceObject}, Database.{database_in}, Gathered.{IsGathered, IsPieceAmong}, Known.{FitsPiece}}
use Rattle.rm_evidence.{specs.declared.evidence.{Evidence.{Evidence}, InPlace.{InPlace}}, proofs.Backups.{base-gathered, base-recorded}}
use Rattle.rm_history.specs.declared.tree.Incarnation.{Incarnation}
use Rattle.rm_piece.{specs.declared.piece.Piece.{Piece}, proofs.Fitting.{spelling_same}}
use Rattle.rm_backup.specs.Renewed.{copy_at}

-- a copy that is found is one of those at hand, with this id
copy_held : (bases : List (ℕ × Piece)) (id : ℕ) (a : Piece) → copy_at bases id ≡ Some a → Contains bases (id, a)
copy_held bases id a is = elim (find_cases (λ (x : ℕ × Piece). eqb x.0 id) bases) [
  | inl none ↦ let both : None ≡ Some a = sym (ap (λ (o : Option (ℕ × Piece)). option_map (λ x. x.1) o) none) ∙ is in absurd (cc)
  | inr found ↦
      let same = same_Some found.item.1 a (sym (ap (λ (o : Option (ℕ × Piece)). option_map (λ x. x.1) o) found.is) ∙ is) in
      subst (λ (n : ℕ). Contains bases (n, a)) (eqb-true found.item.0 id found.passes)
      (subst (λ (b : Piece). Contains bases (found.item.0, b)) same found.held)
]

-- it fits the catalog
pub copy_fits : (tree : List Incarnation) (bases : List (ℕ × Piece)) (id : ℕ) (a : Piece) → All (λ x. FitsPiece tree x.1) bases → copy_at bases id ≡ Some a → FitsPiece tree a
copy_fits tree bases id a all is = All-contains (λ (x : ℕ × Piece). FitsPiece tree x.1) bases (id, a) all (copy_held bases id a is)

-- a catalog has one piece of each id
same_piece : (rs : List Record) (p q : PieceEntry) → IsCatalog rs → Contains rs (records.Piece p) → Contains rs (records.Piece q) → q.id ≡ p.id → q ≡ p
same_piece rs p q catalog has_p has_q same =
    let both = sym (at-is rs (records.Piece q) catalog has_q) ∙ ap (λ (n : ℕ). at (place_of_id 5 n) rs) same ∙ at-is rs (records.Piece p) catalog has_p in
    same_Some q p (ap (λ (o : Option Record). option_and_then piece_in o) both)

module _ (held : Held) (rs : List Record) (place : InPlace) (e : Evidence) (p : PieceEntry) (a : Piece) (catalog : IsCatalog rs) (gathered : IsGathered held rs place e) (has : Contains rs (records.Piece p)) where
  some_id : 1 ≤ p.id
  some_id = (obeys rs (records.Piece p) catalog has).own.id.number

  -- what is at hand under the id of the record is its own, and no set's
  own : (b : Piece) → IsPieceAmong held (database_in rs) rs p.id b → HasPieceObject held p b
  own b (inl (q, there, same, has_object)) = subst (λ (r : PieceEntry). HasPieceObject held r b) (same_piece rs p q catalog has there same) has_object
  own b (inr is) = absurd (free-in rs 5 p.id 9 (obeys rs (records.Piece p) catalog has).own.id refl refl (some_is rs (place_of_id 9 p.id) (records.Set is.0) is.1 (ap (λ (n : ℕ). place_of_id 9 n) is.2)))

  -- and it is one
  one : (b c : Piece) → HasPieceObject held p b → HasPieceObject held p c → b ≡ c
  one b c first second =
      spelling_same b c first.object.valid second.object.valid
      (sym first.object.spelled ∙ same_Some first.bytes second.bytes (sym first.there ∙ second.there) ∙ second.object.spelled)

  pub level1_at_hand : p.kind ≡ Level1 → Contains e.level1s (p.id, a) ↔ HasPieceObject held p a
  level1_at_hand kind =
      let all = gathered.level1s in (
        λ at_hand. own a ((all.exact p.id a).0 (subst (λ (xs : List (ℕ × Piece)). Contains xs (p.id, a)) all.list at_hand)).0,
        λ available. subst (λ (xs : List (ℕ × Piece)). Contains xs (p.id, a)) (sym all.list) ((all.exact p.id a).1 (inl (p, has, refl, available), available.object.fields.kind ∙ kind)),
      )

  -- a base of this id at hand is one of the store
  stored : (b : Piece) → Contains e.bases (p.id, b) → HasPieceObject held p b
  stored b at_hand = own b (base-recorded held rs place e gathered p.id b some_id at_hand).0

  -- and it is the only one
  found_one : (b : Piece) → Contains e.bases (p.id, b) → copy_at e.bases p.id ≡ Some b
  found_one b at_hand = elim (find_cases (λ (x : ℕ × Piece). eqb x.0 p.id) e.bases) [
    | inl none ↦ absurd (find_none (λ (x : ℕ × Piece). eqb x.0 p.id) e.bases (p.id, b) none at_hand (eq-eqb p.id p.id refl))
    | inr found ↦
        let number = eqb-true found.item.0 p.id found.passes in
        let other = subst (λ (n : ℕ). Contains e.bases (n, found.item.1)) number found.held in
        ap (λ (o : Option (ℕ × Piece)). option_map (λ x. x.1) o) found.is ∙ ap (λ (x : Piece). Some x) (one found.item.1 b (stored found.item.1 other) (stored b at_hand))
  ]

  pub copy_at_hand : p.kind ≢ Level1 → (copy_at e.bases p.id ≡ Some a) ↔ HasPieceObject held p a
  copy_at_hand kind = (
    λ is. stored a (copy_held e.bases p.id a is),
    λ available. found_one a (base-gathered held rs place e gathered p.id a (inl (p, has, refl, available), λ level1. kind (sym available.object.fields.kind ∙ level1))),
  )
