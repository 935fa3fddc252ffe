-- Which records have their artefact at hand, and why others have not.
use Rattle.std.specs.Prelude.{◌≡◌, ℕ, List, Option, Some, None, Contains}
use Rattle.rm_base.specs.{Store.{Held}, declared.kinds.{Bad.{Bad, TheVariants.{Missing, Damaged}}, Status.TheVariants.{Available}}}
use Rattle.rm_catalog.specs.declared.record.{LogEntry.{LogEntry}, PieceEntry.{PieceEntry}, Record.{Record, TheVariants.{Log, Piece, Set}}}
use Rattle.rm_catalog.specs.declared.record.SetEntry.{SetEntry}
use Rattle.rm_evidence.specs.{Database.{Database, database_in}, Names.{log_name, piece_name, set_name}}
use Rattle.rm_evidence.specs.Objects.{IsLogObject, IsPieceObject, IsSetObject}
use Rattle.rm_piece.specs.declared.piece as artefact
use Rattle.rm_piece.specs.declared.set as sets
use Rattle.rm_redo.specs.declared.log_file.LogFile.{LogFile}

-- the record is one of a log that counts as available, and the store has its log
pub record HasLogObject (held : Held) (l : LogEntry) (a : LogFile) : Type 0 where
  pub status : l.status ≡ Available
  pub bytes : List ℕ
  pub there : held (log_name l.id) ≡ Some bytes
  pub object : IsLogObject l bytes a

-- the record is one of a piece that counts as available, and the store has its piece
pub record HasPieceObject (held : Held) (p : PieceEntry) (a : artefact.Piece.Piece) : Type 0 where
  pub status : p.status ≡ Available
  pub bytes : List ℕ
  pub there : held (piece_name p.copy p.id) ≡ Some bytes
  pub object : IsPieceObject p bytes a

-- the record is one of a set that counts as available, and the store has its set
pub record HasSetObject (held : Held) (base : Database) (e : SetEntry) (s : sets.Set.Set) : Type 0 where
  pub status : e.status ≡ Available
  pub bytes : List ℕ
  pub there : held (set_name e.id) ≡ Some bytes
  pub object : IsSetObject base e bytes s

-- nothing stands under the name, or what stands there is no object of the record
abbrev pub IsBad : (List ℕ → Type 0) → Option (List ℕ) → Bad → Type 0
IsBad Is None Missing = Unit {0}
IsBad Is None Damaged = ⊥
IsBad Is (Some bytes) Missing = ⊥
IsBad Is (Some bytes) Damaged = ¬ Is bytes

-- of these records of a database, the one of this id counts as available, but its artefact is not at hand
pub data IsSkippedAmong (held : Held) (base : Database) (rs : List Record) : ℕ → Bad → Type 0 where
  a_log : (l : LogEntry) (bad : Bad) → Contains rs (Log l) → l.status ≡ Available → IsBad (λ bytes. (a : LogFile) × IsLogObject l bytes a) (held (log_name l.id)) bad → IsSkippedAmong held base rs l.id bad
  a_piece : (p : PieceEntry) (bad : Bad) → Contains rs (Piece p) → p.status ≡ Available → IsBad (λ bytes. (a : artefact.Piece.Piece) × IsPieceObject p bytes a) (held (piece_name p.copy p.id)) bad → IsSkippedAmong held base rs p.id bad
  a_set : (e : SetEntry) (bad : Bad) → Contains rs (Set e) → e.status ≡ Available → IsBad (λ bytes. (s : sets.Set.Set) × IsSetObject base e bytes s) (held (set_name e.id)) bad → IsSkippedAmong held base rs e.id bad

-- so of all records
abbrev pub IsSkipped : Held → List Record → ℕ → Bad → Type 0
IsSkipped held rs id bad = IsSkippedAmong held (database_in rs) rs id bad
