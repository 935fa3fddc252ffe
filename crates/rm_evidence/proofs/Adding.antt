-- What one record adds to the evidence.
use Rattle.std.specs.Prelude.{Ok, Err, Result}
use Rattle.std.proofs.Common.{◌≡◌, ◌≢◌, ◌<◌, ℕ, List, [], ◌∷◌, ◌++◌, map, AllPairs, Contains, refl, ap, sym, subst, arith}
use Rattle.rm_base.specs.{Store.{Held}, declared.kinds.{Bad.{Bad}, Kind.TheVariants.{Level1}, Status.TheVariants.{Available}}}
use Rattle.rm_base.proofs.{Lists.{map_from, map_to, only-in, pairs-mapped}, Members.{in-front}}
use Rattle.rm_catalog.specs.declared.record.{LogEntry.{LogEntry}, PieceEntry.{PieceEntry}, SetEntry.{SetEntry}, Record.{Record}}
use Rattle.rm_catalog.specs.declared.record.Record.TheVariants as kind
use Rattle.rm_evidence.specs.{Available.{IsSkippedAmong}, Database.{Database}}
use Rattle.rm_evidence.specs.Gathered.{ById, ByIdAndFile, IsBaseAmong, IsLevel1Among, IsLogOf}
use Rattle.rm_evidence.specs.{Taking.{Adds, Extends, IsTold, with_pieces}, Names.{log_name, piece_name, set_name}}
use Rattle.rm_evidence.specs.{Objects.{IsLogObject, IsPieceObject, IsSetObject}, declared.evidence.Evidence.{Evidence}}
use Rattle.rm_evidence.proofs.Extending.{extends-as, extends-none, extends-one}
use Rattle.rm_evidence.proofs.Objects.{one-log, one-piece, one-set, told-one, not-both, bad-one}
use Rattle.rm_evidence.proofs.Pieces.{bases-grown, level1s-grown, grown}
use Rattle.rm_evidence.proofs.Records.{Counts, IsLogRecord, IsPieceRecord, IsBadRecord, base-by, base-to, level1-by, level1-to, log-by, log-to, bad-by, bad-to, only, log-counts, piece-counts, bad-counts}
use Rattle.rm_piece.specs.declared.{piece.Piece.{Piece}, set.{Set.{Set}, SetFile.{SetFile}}}
use Rattle.rm_redo.specs.declared.log_file.LogFile.{LogFile}

-- what is told of a log, of a piece and of a set
abbrev pub LogTold : Held → LogEntry → Result LogFile Bad → Type 0
LogTold held l told = IsTold (IsLogObject l) (held (log_name l.id)) told

abbrev pub PieceTold : Held → PieceEntry → Result Piece Bad → Type 0
PieceTold held p told = IsTold (IsPieceObject p) (held (piece_name p.copy p.id)) told

abbrev pub SetTold : Held → Database → SetEntry → Result Set Bad → Type 0
SetTold held base e told = IsTold (IsSetObject base e) (held (set_name e.id)) told

-- the pieces of a set
abbrev pub pieces_of : Set → List Piece
pieces_of s = map (λ (m : SetFile). m.piece) s.members

module _ (held : Held) (base : Database) where
  -- what one record adds, by its kind
  module _ (r : Record) (old new : Evidence) where
    adds-record : Extends Piece ByIdAndFile old.bases (λ id a. IsPieceRecord held base r id a × (a.kind ≢ Level1)) new.bases
        → Extends Piece ByIdAndFile old.level1s (λ id a. IsPieceRecord held base r id a × (a.kind ≡ Level1)) new.level1s
        → Extends LogFile ById old.logs (IsLogRecord held r) new.logs → Extends Bad ById old.skipped (IsBadRecord held base r) new.skipped → Adds held base (r ∷ []) old new
    adds-record b v g s = record {
      bases = extends-as ByIdAndFile (λ id a. IsPieceRecord held base r id a × (a.kind ≢ Level1)) (IsBaseAmong held base (r ∷ [])) old.bases new.bases
          (λ id a is. base-to held base (r ∷ []) r id a (in-front r []) is) (λ id a is. only Piece (λ rs. IsBaseAmong held base rs) (λ r id a. IsPieceRecord held base r id a × (a.kind ≢ Level1)) (base-by held base) (base-to held base) r id a is) b;
      level1s = extends-as ByIdAndFile (λ id a. IsPieceRecord held base r id a × (a.kind ≡ Level1)) (IsLevel1Among held base (r ∷ [])) old.level1s new.level1s
          (λ id a is. level1-to held base (r ∷ []) r id a (in-front r []) is) (λ id a is. only Piece (λ rs. IsLevel1Among held base rs) (λ r id a. IsPieceRecord held base r id a × (a.kind ≡ Level1)) (level1-by held base) (level1-to held base) r id a is) v;
      logs = extends-as ById (IsLogRecord held r) (IsLogOf held (r ∷ [])) old.logs new.logs
          (λ id a is. log-to held base (r ∷ []) r id a (in-front r []) is) (λ id a is. only LogFile (λ rs. IsLogOf held rs) (IsLogRecord held) (log-by held base) (log-to held base) r id a is) g;
      skipped = extends-as ById (IsBadRecord held base r) (IsSkippedAmong held base (r ∷ [])) old.skipped new.skipped
          (λ id bad is. bad-to held base (r ∷ []) r id bad (in-front r []) is) (λ id bad is. only Bad (λ rs. IsSkippedAmong held base rs) (IsBadRecord held base) (bad-by held base) (bad-to held base) r id bad is) s;
    }

  -- nothing, where the record does not count as available
  pub adds-none : (r : Record) (e : Evidence) → (Counts r → ⊥) → Adds held base (r ∷ []) e e
  adds-none r e off = adds-record r e e
      (extends-none ByIdAndFile (λ id a. IsPieceRecord held base r id a × (a.kind ≢ Level1)) e.bases e.bases refl (λ id a is. off (piece-counts held base r id a is.0)))
      (extends-none ByIdAndFile (λ id a. IsPieceRecord held base r id a × (a.kind ≡ Level1)) e.level1s e.level1s refl (λ id a is. off (piece-counts held base r id a is.0)))
      (extends-none ById (IsLogRecord held r) e.logs e.logs refl (λ id a is. off (log-counts held r id a is)))
      (extends-none ById (IsBadRecord held base r) e.skipped e.skipped refl (λ id bad is. off (bad-counts held base r id bad is)))

  -- no more than this log
  pub adds-log : (l : LogEntry) (a : LogFile) (old new : Evidence) → l.status ≡ Available → LogTold held l (Ok a) → new ≡ record old { logs = old.logs ++ (l.id, a) ∷ [] } → Adds held base (kind.Log l ∷ []) old new
  adds-log l a old new status told same = subst (Adds held base (kind.Log l ∷ []) old) (sym same) (adds-record (kind.Log l) old (record old { logs = old.logs ++ (l.id, a) ∷ [] })
      (extends-none ByIdAndFile (λ id x. ⊥ × (x.kind ≢ Level1)) old.bases old.bases refl (λ id x is. is.0))
      (extends-none ByIdAndFile (λ id x. ⊥ × (x.kind ≡ Level1)) old.level1s old.level1s refl (λ id x is. is.0))
      (extends-one ById (IsLogRecord held (kind.Log l)) old.logs (old.logs ++ (l.id, a) ∷ []) l.id a refl (refl, record { status = status; bytes = told.0; there = told.1; object = told.2 })
      (λ j x is. (is.0, told-one (IsLogObject l) (held (log_name l.id)) a x (one-log l) told (is.1.bytes, is.1.there, is.1.object))))
      (extends-none ById (IsBadRecord held base (kind.Log l)) old.skipped old.skipped refl (λ id bad is. not-both (IsLogObject l) (held (log_name l.id)) a bad told is.2)))

  -- no more than that the object of the record is bad
  adds-bad : (r : Record) (id : ℕ) (bad : Bad) (old new : Evidence) → ((j : ℕ) (a : LogFile) → IsLogRecord held r j a → ⊥) → ((j : ℕ) (a : Piece) → IsPieceRecord held base r j a → ⊥) → IsBadRecord held base r id bad
      → ((j : ℕ) (b : Bad) → IsBadRecord held base r j b → (id ≡ j) × (bad ≡ b)) → new ≡ record old { skipped = old.skipped ++ (id, bad) ∷ [] } → Adds held base (r ∷ []) old new
  adds-bad r id bad old new no_log no_piece is one same = subst (Adds held base (r ∷ []) old) (sym same) (adds-record r old (record old { skipped = old.skipped ++ (id, bad) ∷ [] })
      (extends-none ByIdAndFile (λ j a. IsPieceRecord held base r j a × (a.kind ≢ Level1)) old.bases old.bases refl (λ j a x. no_piece j a x.0))
      (extends-none ByIdAndFile (λ j a. IsPieceRecord held base r j a × (a.kind ≡ Level1)) old.level1s old.level1s refl (λ j a x. no_piece j a x.0))
      (extends-none ById (IsLogRecord held r) old.logs old.logs refl no_log)
      (extends-one ById (IsBadRecord held base r) old.skipped (old.skipped ++ (id, bad) ∷ []) id bad refl is one))

  pub adds-bad_log : (l : LogEntry) (bad : Bad) (old new : Evidence) → l.status ≡ Available → LogTold held l (Err bad) → new ≡ record old { skipped = old.skipped ++ (l.id, bad) ∷ [] } → Adds held base (kind.Log l ∷ []) old new
  adds-bad_log l bad old new status told same = adds-bad (kind.Log l) l.id bad old new
      (λ j a is. not-both (IsLogObject l) (held (log_name l.id)) a bad (is.1.bytes, is.1.there, is.1.object) told) (λ j a is. is) (refl, status, told)
      (λ j b is. (is.0, bad-one (IsLogObject l) (held (log_name l.id)) bad b told is.2)) same

  pub adds-bad_piece : (p : PieceEntry) (bad : Bad) (old new : Evidence) → p.status ≡ Available → PieceTold held p (Err bad) → new ≡ record old { skipped = old.skipped ++ (p.id, bad) ∷ [] } → Adds held base (kind.Piece p ∷ []) old new
  adds-bad_piece p bad old new status told same = adds-bad (kind.Piece p) p.id bad old new
      (λ j a is. is) (λ j a is. not-both (IsPieceObject p) (held (piece_name p.copy p.id)) a bad (is.1.bytes, is.1.there, is.1.object) told) (refl, status, told)
      (λ j b is. (is.0, bad-one (IsPieceObject p) (held (piece_name p.copy p.id)) bad b told is.2)) same

  pub adds-bad_set : (e : SetEntry) (bad : Bad) (old new : Evidence) → e.status ≡ Available → SetTold held base e (Err bad) → new ≡ record old { skipped = old.skipped ++ (e.id, bad) ∷ [] } → Adds held base (kind.Set e ∷ []) old new
  adds-bad_set e bad old new status told same = adds-bad (kind.Set e) e.id bad old new
      (λ j a is. is) (λ j a is. not-both (IsSetObject base e) (held (set_name e.id)) is.1.0 bad (is.1.1.bytes, is.1.1.there, is.1.1.object) told) (refl, status, told)
      (λ j b is. (is.0, bad-one (IsSetObject base e) (held (set_name e.id)) bad b told is.2)) same

  -- no more than these pieces, of different datafiles, each among those of its kind
  adds-pieces : (r : Record) (id : ℕ) (pieces : List Piece) (old : Evidence) → AllPairs (λ a b. a.file < b.file) pieces → ((j : ℕ) (a : Piece) → IsPieceRecord held base r j a → (id ≡ j) × Contains pieces a) → ((a : Piece) → Contains pieces a → IsPieceRecord held base r id a)
      → ((j : ℕ) (a : LogFile) → IsLogRecord held r j a → ⊥) → ((j : ℕ) (bad : Bad) → IsBadRecord held base r j bad → ⊥) → Adds held base (r ∷ []) old (with_pieces old id pieces)
  adds-pieces r id pieces old ascend told tells no_log no_bad =
      let lists = grown old id pieces in
      adds-record r old (with_pieces old id pieces)
      (bases-grown (IsPieceRecord held base r) id pieces ascend told tells old) (level1s-grown (IsPieceRecord held base r) id pieces ascend told tells old)
      (extends-none ById (IsLogRecord held r) old.logs (with_pieces old id pieces).logs (ap (λ (x : Evidence). x.logs) lists) no_log)
      (extends-none ById (IsBadRecord held base r) old.skipped (with_pieces old id pieces).skipped (ap (λ (x : Evidence). x.skipped) lists) no_bad)

  pub adds-piece : (p : PieceEntry) (a : Piece) (old : Evidence) → p.status ≡ Available → PieceTold held p (Ok a) → Adds held base (kind.Piece p ∷ []) old (with_pieces old p.id (a ∷ []))
  adds-piece p a old status told = adds-pieces (kind.Piece p) p.id (a ∷ []) old (λ i j d less inside. absurd (omega arith))
      (λ j x is. (is.0, subst (λ (y : Piece). Contains (a ∷ []) y) (told-one (IsPieceObject p) (held (piece_name p.copy p.id)) a x (one-piece p) told (is.1.bytes, is.1.there, is.1.object)) (in-front a [])))
      (λ x has. subst (λ (y : Piece). IsPieceRecord held base (kind.Piece p) p.id y) (only-in a x has) (refl, record { status = status; bytes = told.0; there = told.1; object = told.2 }))
      (λ j x is. is) (λ j bad is. not-both (IsPieceObject p) (held (piece_name p.copy p.id)) a bad told is.2)

  pub adds-set : (e : SetEntry) (s : Set) (old : Evidence) → e.status ≡ Available → SetTold held base e (Ok s) → Adds held base (kind.Set e ∷ []) old (with_pieces old e.id (pieces_of s))
  adds-set e s old status told = adds-pieces (kind.Set e) e.id (pieces_of s) old
      (pairs-mapped (λ (m : SetFile). m.piece) (λ (m n : SetFile). m.piece.file < n.piece.file) (λ (a b : Piece). a.file < b.file) (λ m n less. less) s.members told.2.valid.ascend)
      there here (λ j x is. is) (λ j bad is. not-both (IsSetObject base e) (held (set_name e.id)) s bad told is.2)
    where
      there : (j : ℕ) (a : Piece) → IsPieceRecord held base (kind.Set e) j a → (e.id ≡ j) × Contains (pieces_of s) a
      there j a is =
          let same : s ≡ is.1.0 = told-one (IsSetObject base e) (held (set_name e.id)) s is.1.0 (one-set base e) told (is.1.1.bytes, is.1.1.there, is.1.1.object) in
          (is.0, subst (λ (x : Piece). Contains (pieces_of s) x) is.1.2.2 (map_to (λ (m : SetFile). m.piece) s.members is.1.2.0 (subst (λ (t : Set). Contains t.members is.1.2.0) (sym same) is.1.2.1)))

      here : (a : Piece) → Contains (pieces_of s) a → IsPieceRecord held base (kind.Set e) e.id a
      here a has =
          let from = map_from (λ (m : SetFile). m.piece) s.members a has in
          (refl, (s, record { status = status; bytes = told.0; there = told.1; object = told.2 }, (from.item, from.held, from.is)))
