-- Of the skipped records those of a copy or a level 1 with the tag.
use Rattle.std.specs.Option.{option_map_or}
use Rattle.std.proofs.Common.{◌≡◌, ◌≢◌, ◌<◌, ◌∙◌, ◌==◌, inl, inr, ℕ, List, [], Some, true, false, refl, ap, sym, subst, eq-eqb, filter, Contains}
use Rattle.std.proofs.lemmas.{Bool.{eqb-true}, List.Kept.{AllPairs-filter}}
use Rattle.rm_base.{specs.{Store.{Held}, declared.kinds.Bad.{Bad}}, proofs.Keyed.{same_item}}
use Rattle.rm_base.proofs.Lists.{filter_from, filter_to, find_cases, find_none, map_from, map_to}
use Rattle.rm_catalog.specs.declared.record.{PieceEntry.{PieceEntry}, Record.TheVariants.{Log, Piece, Set}}
use Rattle.rm_evidence.specs.{Available.{IsSkipped, a_log, a_piece, a_set}, Gathered.{Lists}}
use Rattle.rm_machine.specs.{RecoverCopy.{for_copies, is_for_copies}, Sound.{IsSound}, Upkeep.{piece_at}, State.{ledger}}
use Rattle.rm_machine.specs.declared.state.State.{State}
use Rattle.rm_catalog_typed.{specs.TypedCatalog.{records_of}, proofs.Members.{log-in, piece-has, piece-in, set-in}}
use Rattle.rm_step_copies.specs.Skipped.{is_of_copies}

module _ (s : State) (tag : List ℕ) (held : Held) (sound : IsSound s) where
  abbrev ps : List PieceEntry
  ps = (ledger s).pieces

  -- a record is found by its id
  found-at : (p : PieceEntry) → Contains ps p → piece_at s.catalog p.id ≡ Some p
  found-at p has = elim (find_cases (λ (q : PieceEntry). q.id == p.id) ps) [
    | inl none ↦ absurd (find_none (λ (q : PieceEntry). q.id == p.id) ps p none has (eq-eqb p.id p.id refl))
    | inr found ↦ found.is ∙ ap Some (same_item (λ (q : PieceEntry). q.id) ps sound.catalog.ledger.ids.pieces_ascend found.item p found.held has (eqb-true found.item.id p.id found.passes))
  ]

  of-piece : (p : PieceEntry) → Contains ps p → is_of_copies s tag p.id ≡ is_for_copies tag p
  of-piece p has = ap (λ o. option_map_or (is_for_copies tag) o false) (found-at p has)

  -- an id of no piece is none of theirs
  of-none : (id : ℕ) → ((p : PieceEntry) → Contains ps p → p.id ≢ id) → is_of_copies s tag id ≡ false
  of-none id apart = elim (find_cases (λ (q : PieceEntry). q.id == id) ps) [
    | inl none ↦ ap (λ o. option_map_or (is_for_copies tag) o false) none
    | inr found ↦ absurd (apart found.item found.held (eqb-true found.item.id id found.passes))
  ]

  to-copies : (id : ℕ) (bad : Bad) → IsSkipped held (records_of s.catalog) id bad → is_of_copies s tag id ≡ true → IsSkipped held (for_copies s tag) id bad
  to-copies _ _ (a_log l bad has status told) is =
      let other = of-none l.id (λ p held same. sound.catalog.ledger.ids.apart l p (log-in s.catalog l sound.catalog has) held (sym same)) in
      absurd (let clash : false ≡ true = sym other ∙ is in cc)
  to-copies _ _ (a_piece p bad has status told) is =
      let there = piece-in s.catalog p sound.catalog has in
      a_piece p bad (map_to Piece (filter (is_for_copies tag) ps) p (filter_to (is_for_copies tag) ps p there (sym (of-piece p there) ∙ is))) status told
  to-copies _ _ (a_set e bad has status told) is =
      let other = of-none e.id (λ p held. sound.catalog.ledger.ids.pieces_apart p e held (set-in s.catalog e sound.catalog has)) in
      absurd (let clash : false ≡ true = sym other ∙ is in cc)

  from-copies : (id : ℕ) (bad : Bad) → IsSkipped held (for_copies s tag) id bad → IsSkipped held (records_of s.catalog) id bad × (is_of_copies s tag id ≡ true)
  from-copies _ _ (a_log l bad has status told) =
      let row = map_from Piece (filter (is_for_copies tag) ps) (Log l) has in
      absurd (let clash : Piece row.item ≡ Log l = row.is in cc)
  from-copies _ _ (a_piece p bad has status told) =
      let row = map_from Piece (filter (is_for_copies tag) ps) (Piece p) has in
      let same : row.item ≡ p = (let one : Piece row.item ≡ Piece p = row.is in cc) in
      let is = filter_from (is_for_copies tag) ps p (subst (Contains (filter (is_for_copies tag) ps)) same row.held) in
      (a_piece p bad (piece-has s.catalog p is.0) status told, of-piece p is.0 ∙ is.1)
  from-copies _ _ (a_set e bad has status told) =
      let row = map_from Piece (filter (is_for_copies tag) ps) (Set e) has in
      absurd (let clash : Piece row.item ≡ Set e = row.is in cc)

  pub skipped-of : (all : List (ℕ × Bad)) → Lists Bad [] (IsSkipped held (records_of s.catalog)) all → Lists Bad [] (IsSkipped held (for_copies s tag)) (filter (λ x. is_of_copies s tag x.0) all)
  skipped-of all are = record {
    rest = filter (λ (x : ℕ × Bad). is_of_copies s tag x.0) are.rest;
    list = ap (λ (xs : List (ℕ × Bad)). filter (λ x. is_of_copies s tag x.0) xs) are.list;
    ascends = AllPairs-filter (λ (x y : ℕ × Bad). x.0 < y.0) (λ (x : ℕ × Bad). is_of_copies s tag x.0) are.rest are.ascends;
    exact = λ id bad. (
      (λ has. let was = filter_from (λ (x : ℕ × Bad). is_of_copies s tag x.0) are.rest (id, bad) has in to-copies id bad ((are.exact id bad).0 was.0) was.1),
      (λ is. let was = from-copies id bad is in filter_to (λ (x : ℕ × Bad). is_of_copies s tag x.0) are.rest (id, bad) ((are.exact id bad).1 was.0) was.1),
    );
  }
