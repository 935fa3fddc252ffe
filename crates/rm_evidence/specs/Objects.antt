-- Which bytes are the object of a record.
use Rattle.std.specs.{Prelude.{◌≡◌, ℕ, ◌-◌, Bool, List, length, slice_get, All, IsSomeAnd}, List.{AllZip}}
use Rattle.sha2.specs.Sha256.{sha256}
use Rattle.rm_base.specs.declared.kinds.Status.TheVariants.{Available}
use Rattle.rm_catalog.specs.declared.record.{LogEntry.{LogEntry}, PieceEntry.{PieceEntry}, SetEntry.{SetEntry}, SetPart.{SetPart}}
use Rattle.rm_evidence.specs.Database.{Database}
use Rattle.rm_history.specs.declared.world.Datafile.{Datafile}
use Rattle.rm_piece.specs.{SetSpelling.{set_spelling, spelled}, Sets.{IsSet}, Valid.{IsPiece}, declared.piece.Piece.{Piece}}
use Rattle.rm_piece.specs.declared.set.{Set.{Set}, SetFile.{SetFile}}
use Rattle.rm_piece.specs.Spelling as piece
use Rattle.rm_redo.specs.{LogFormat.{IsLogFile}, declared.log_file.LogFile.{LogFile}}
use Rattle.rm_redo.specs.LogFormat as log

-- the bytes have the size and the digest that were recorded
pub record HasDigest (bytes : List ℕ) (n : ℕ) (digest : List ℕ) : Type 0 where
  pub size : length bytes ≡ n
  pub sha : sha256 bytes ≡ digest

-- the log has the fields that its record has
pub record HasLogFields (l : LogEntry) (a : LogFile) : Type 0 where
  pub inc : a.inc ≡ l.inc
  pub thread : a.thread ≡ l.thread
  pub sequence : a.sequence ≡ l.sequence
  pub first : a.first ≡ l.first
  pub next : a.next ≡ l.next

-- the bytes are the record's, and spell this log
pub record IsLogObject (l : LogEntry) (bytes : List ℕ) (a : LogFile) : Type 0 where
  pub digest : HasDigest bytes l.size l.sha
  pub valid : IsLogFile a
  pub spelled : bytes ≡ log.spelling a
  pub fields : HasLogFields l a

-- the piece has the fields that its record has
pub record HasPieceFields (p : PieceEntry) (a : Piece) : Type 0 where
  pub kind : a.kind ≡ p.kind
  pub inc : a.inc ≡ p.inc
  pub file : a.file ≡ p.file
  pub from : a.from ≡ p.from
  pub checkpoint : a.checkpoint ≡ p.checkpoint
  pub high : a.high ≡ p.high
  pub rows : length a.rows ≡ p.rows

-- the record of a piece that is made, under this id, with the size and the digest of its object
abbrev pub piece_entry : Bool → Bool → List ℕ → ℕ → ℕ → Piece → PieceEntry
piece_entry copy keep tag moment id a =
    record {
      id = id;
      copy = copy;
      kind = a.kind;
      inc = a.inc;
      file = a.file;
      from = a.from;
      checkpoint = a.checkpoint;
      high = a.high;
      rows = length a.rows;
      size = length (piece.spelling a);
      sha = sha256 (piece.spelling a);
      status = Available;
      keep = keep;
      tag = tag;
      moment = moment;
    }

-- the bytes are the record's, and spell this piece
pub record IsPieceObject (p : PieceEntry) (bytes : List ℕ) (a : Piece) : Type 0 where
  pub digest : HasDigest bytes p.size p.sha
  pub valid : IsPiece a
  pub spelled : bytes ≡ piece.spelling a
  pub fields : HasPieceFields p a

-- the member has the fields of its part of the record; the rows that are counted are those that stand in the bytes
pub record HasPartFields (p : SetPart) (m : SetFile) : Type 0 where
  pub file : m.piece.file ≡ p.file
  pub kind : m.piece.kind ≡ p.kind
  pub from : m.piece.from ≡ p.from
  pub high : m.piece.high ≡ p.high
  pub rows : length (spelled m) ≡ p.rows

-- one member for each part, in order
abbrev pub AreParts : List SetPart → List SetFile → Type 0
AreParts ps ms = AllZip HasPartFields ps ms

-- the member is of this datafile, as it was created
pub record IsAsCreated (m : SetFile) (d : Datafile) : Type 0 where
  pub creation : m.creation ≡ d.creation
  pub blocks : m.piece.blocks ≡ d.blocks

-- the set has the fields that its record has, is of this database, and its members are of its datafiles
pub record HasSetFields (base : Database) (e : SetEntry) (s : Set) : Type 0 where
  pub dbid : s.dbid ≡ base.dbid
  pub inc : s.inc ≡ e.inc
  pub checkpoint : s.checkpoint ≡ e.checkpoint
  pub parts : AreParts e.parts s.members
  pub files : All (λ m. IsSomeAnd (slice_get base.files (m.piece.file - 1)) (IsAsCreated m)) s.members

-- the bytes are the record's, and spell this set
pub record IsSetObject (base : Database) (e : SetEntry) (bytes : List ℕ) (s : Set) : Type 0 where
  pub digest : HasDigest bytes e.size e.sha
  pub valid : IsSet s
  pub spelled : bytes ≡ set_spelling s
  pub fields : HasSetFields base e s
