-- The artefacts of the evidence, and which evidence fits a database.
use Rattle.std.specs.Prelude.{ℕ, ◌≡◌, ◌≢◌, ◌<◌, ◌⊎◌, ◌-◌, List, slice_get, map, All, Contains, IsSomeAnd}
use Rattle.rm_base.specs.declared.kinds.Kind.TheVariants.{Level1}
use Rattle.rm_catalog.specs.declared.record.{PieceEntry.{PieceEntry}, Record.{Record}, SetEntry.{SetEntry}, SetPart.{SetPart}}
use Rattle.rm_catalog.specs.declared.record.Record.TheVariants as kind
use Rattle.rm_evidence.specs.{Database.{datafiles}, Objects.{HasPieceFields}, declared.evidence.Evidence.{Evidence}}
use Rattle.rm_history.specs.{Tree.{IsThere}, declared.tree.Incarnation.{Incarnation}}
use Rattle.rm_history.specs.Evidence as known
use Rattle.rm_piece.specs.{Artefacts.{base_of, level1_of}, Valid.{IsPiece}, declared.piece.Piece.{Piece}}
use Rattle.rm_redo.specs.{LogFile.{log_of}, LogFormat.{IsLogFile}, declared.log_file.LogFile.{LogFile}}

-- the artefacts, without their ids
abbrev pub known_of : Evidence → known.Evidence
known_of e =
    record {
      bases = map (λ x. base_of x.1) e.bases;
      level1s = map (λ x. level1_of x.1) e.level1s;
      logs = map (λ x. log_of x.1) e.logs;
    }

-- the piece is valid, and its incarnation is there
pub record FitsPiece (tree : List Incarnation) (a : Piece) : Type 0 where
  pub valid : IsPiece a
  pub inc : IsThere tree a.inc

-- the log is valid, and its incarnation is there
pub record FitsLog (tree : List Incarnation) (a : LogFile) : Type 0 where
  pub valid : IsLogFile a
  pub inc : IsThere tree a.inc

-- each artefact is valid, of an incarnation of the tree, and stands among those of its kind
pub record FitsTree (tree : List Incarnation) (e : Evidence) : Type 0 where
  pub bases : All (λ x. FitsPiece tree x.1) e.bases
  pub no_level1 : All (λ x. x.1.kind ≢ Level1) e.bases
  pub level1s : All (λ x. FitsPiece tree x.1) e.level1s
  pub all_level1 : All (λ x. x.1.kind ≡ Level1) e.level1s
  pub logs : All (λ x. FitsLog tree x.1) e.logs

-- the piece has the fields of a part of the set's record, and as many blocks as its datafile
pub record IsPartOf (rs : List Record) (e : SetEntry) (a : Piece) : Type 0 where
  pub part : SetPart
  pub held : Contains e.parts part
  pub inc : a.inc ≡ e.inc
  pub checkpoint : a.checkpoint ≡ e.checkpoint
  pub file : a.file ≡ part.file
  pub kind : a.kind ≡ part.kind
  pub from : a.from ≡ part.from
  pub high : a.high ≡ part.high
  pub blocks : IsSomeAnd (slice_get (datafiles rs) (a.file - 1)) (λ d. a.blocks ≡ d.blocks)

-- the piece has the fields of a record of this id, or of a part of a set's record of this id
abbrev pub IsRecorded : List Record → ℕ × Piece → Type 0
IsRecorded rs x =
    ((p : PieceEntry) × Contains rs (kind.Piece p) × (p.id ≡ x.0) × HasPieceFields p x.1)
    ⊎ ((e : SetEntry) × Contains rs (kind.Set e) × (e.id ≡ x.0) × IsPartOf rs e x.1)

-- each copy that is not in place has the fields of its record, whatever the store tells
abbrev pub AreRecorded : List Record → Evidence → Type 0
AreRecorded rs e = All (λ x. 0 < x.0 → IsRecorded rs x) e.bases
