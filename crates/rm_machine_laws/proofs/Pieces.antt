-- A piece or a set is recorded under the next id, with its artefact and its object.
use Rattle.std.proofs.Common.{◌≡◌, ◌++◌, inl, inr, ℕ, List, [], ◌∷◌, Some, Bool, sym, subst, arith, Contains}
use Rattle.std.proofs.lemmas.List.Elements.{Contains-push, Contains-push_cases}
use Rattle.rm_base.specs.{Store.{Held}, declared.block.Change.{Change}}
use Rattle.rm_catalog.specs.declared.record.{PieceEntry.{PieceEntry}, SetEntry.{SetEntry}}
use Rattle.rm_commit.specs.declared.commit.Object.{Object}
use Rattle.rm_catalog_typed.specs.{Ledger.{Ledger}, Fitting.{FitsNewPiece, FitsNewSet}, Worlds.{database_of}}
use Rattle.rm_evidence.specs.{Names.{piece_name, set_name}, Objects.{HasDigest, HasPieceFields, HasSetFields}}
use Rattle.rm_piece.specs.{SetSpelling.{set_spelling}, Spelling.{spelling}, declared.{piece.Piece.{Piece}, set.Set.{Set}}}
use Rattle.rm_machine.specs.{Effect.{Made, a_piece, a_set}, Machine.{HasPieceArtefact, HasSetArtefact, IsBorneOut, IsTrueArtefact}}
use Rattle.rm_machine.{specs.{Sound.{IsSound}, State.{world}, declared.state.State.{State}}, proofs.{Kept.{stays-so}, Later.{fits-with}}}
use Rattle.rm_machine.proofs.Pieces.{sound-recorded, sound-recorded_set, with_recorded, with_recorded_set}
use Rattle.rm_machine_laws.proofs.NewObjects.{borne-more, piece-apart, put-there, set-apart, with_puts}

-- the object of a piece, and of a set
abbrev pub object_of : Bool → ℕ → Piece → Object
object_of copy id a = record { name = piece_name copy id; bytes = spelling a }

abbrev pub object_of_set : ℕ → Set → Object
object_of_set id a = record { name = set_name id; bytes = set_spelling a }

module _ (s : State) (h : List Change) (objects : Held) (made : List Made) (touched : List (List ℕ)) (stands : IsBorneOut s h objects made touched) where
  abbrev l : Ledger
  l = s.catalog.ledger

  -- the piece agrees with the history, its record has its fields, size and digest
  pub borne-recorded : (e : PieceEntry) → FitsNewPiece s.catalog e → (a : Piece) → HasPieceFields e a → HasDigest (spelling a) e.size e.sha → IsTrueArtefact (world s) h (a_piece a)
      → IsBorneOut (with_recorded s e) h (with_puts (object_of e.copy l.base.next_id a ∷ []) objects) (made ++ record { name = piece_name e.copy l.base.next_id; artefact = a_piece a } ∷ []) touched
  borne-recorded e fits a fields digest agrees =
      let x : Object = object_of e.copy l.base.next_id a in
      let new : ℕ → Made = λ n. record { name = piece_name e.copy n; artefact = a_piece a } in
      let more : List Made = made ++ new l.base.next_id ∷ [] in
      let rules = stands.state.catalog.ledger in
      let sound : IsSound (with_recorded s e) = sound-recorded s e stands.state fits in
      borne-more s (with_recorded s e) x (new l.base.next_id) h objects made touched sound (fits-with s (with_recorded s e).catalog sound.catalog h stands.keeps) (stays-so (database_of l))
      (λ name names. piece-apart l e.copy l.base.next_id name rules (omega arith) (omega (arith, rules.base.next_id.1)) names) stands.artefacts agrees
      (λ y has. inl has)
      (λ y has. elim (Contains-push_cases l.pieces e y has) [
        | inl old ↦ inl old
        | inr same ↦ inr (subst (HasPieceArtefact (with_puts (x ∷ []) objects) more touched) same (record {
          artefact = a;
          is = subst (λ n. Contains more (new n)) (sym fits.id) (Contains-push made (new l.base.next_id));
          fields = fields;
          digest = digest;
          there = inr (subst (λ n. with_puts (x ∷ []) objects (piece_name e.copy n) ≡ Some (spelling a)) (sym fits.id) (put-there objects x));
        }))
      ])
      (λ y has. inl has) stands.records

  -- and so does each member of the set
  pub borne-recorded_set : (e : SetEntry) → FitsNewSet s.catalog e → (a : Set) → HasSetFields (database_of l) e a → HasDigest (set_spelling a) e.size e.sha → IsTrueArtefact (world s) h (a_set a)
      → IsBorneOut (with_recorded_set s e) h (with_puts (object_of_set l.base.next_id a ∷ []) objects) (made ++ record { name = set_name l.base.next_id; artefact = a_set a } ∷ []) touched
  borne-recorded_set e fits a fields digest agrees =
      let x : Object = object_of_set l.base.next_id a in
      let new : ℕ → Made = λ n. record { name = set_name n; artefact = a_set a } in
      let more : List Made = made ++ new l.base.next_id ∷ [] in
      let rules = stands.state.catalog.ledger in
      let sound : IsSound (with_recorded_set s e) = sound-recorded_set s e stands.state fits in
      borne-more s (with_recorded_set s e) x (new l.base.next_id) h objects made touched sound (fits-with s (with_recorded_set s e).catalog sound.catalog h stands.keeps) (stays-so (database_of l))
      (λ name names. set-apart l l.base.next_id name rules (omega arith) (omega (arith, rules.base.next_id.1)) names) stands.artefacts agrees
      (λ y has. inl has) (λ y has. inl has)
      (λ y has. elim (Contains-push_cases l.sets e y has) [
        | inl old ↦ inl old
        | inr same ↦ inr (subst (HasSetArtefact (with_puts (x ∷ []) objects) more touched (database_of l)) same (record {
          artefact = a;
          is = subst (λ n. Contains more (new n)) (sym fits.id) (Contains-push made (new l.base.next_id));
          fields = fields;
          digest = digest;
          there = inr (subst (λ n. with_puts (x ∷ []) objects (set_name n) ≡ Some (set_spelling a)) (sym fits.id) (put-there objects x));
        }))
      ]) stands.records
