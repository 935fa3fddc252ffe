-- What is gathered: exactly the artefacts at hand, and exactly the records that are skipped.
use Rattle.std.specs.Prelude.{◌≡◌, ◌≢◌, ◌↔◌, ◌<◌, ◌⊎◌, ℕ, List, [], ◌++◌, length, map, Contains, AllPairs}
use Rattle.rm_base.specs.{Store.{Held}, declared.kinds.Kind.TheVariants.{Level1, Place}}
use Rattle.rm_blocks.specs.File.{File}
use Rattle.rm_catalog.specs.declared.record.{LogEntry.{LogEntry}, PieceEntry.{PieceEntry}, Record.{Record}, SetEntry.{SetEntry}}
use Rattle.rm_catalog.specs.declared.record.Record.TheVariants as kind
use Rattle.rm_evidence.specs.{Available.{HasLogObject, HasPieceObject, HasSetObject, IsSkipped}, Database.{Database, database_in, dbid_in}}
use Rattle.rm_evidence.specs.declared.evidence.{Evidence.{Evidence}, InPlace.{InPlace}}
use Rattle.rm_history.specs.Artefacts.{high_of}
use Rattle.rm_piece.specs.declared.{piece.Piece.{Piece}, set.{Set.{Set}, SetFile.{SetFile}}}
use Rattle.rm_redo.specs.declared.log_file.LogFile.{LogFile}

-- a datafile in place, as a piece of kind 4 of the database
abbrev pub placed_piece : ℕ → File → Piece
placed_piece dbid x =
    record { kind = Place; dbid = dbid; inc = x.inc; file = x.file; blocks = length x.rows; from = 0; checkpoint = x.checkpoint; high = high_of x.checkpoint x.rows; rows = x.rows }

-- what is in place stands under the id 0
abbrev pub placed : {A : Type 0} → List A → List (ℕ × A)
placed items = map (λ a. (0, a)) items

-- a lesser id
abbrev pub ById : {A : Type 0} → ℕ × A → ℕ × A → Type 0
ById x y = x.0 < y.0

-- a lesser id, or the same id and a lesser datafile: the pieces of one set have one id
abbrev pub ByIdAndFile : ℕ × Piece → ℕ × Piece → Type 0
ByIdAndFile x y = (x.0 < y.0) ⊎ ((x.0 ≡ y.0) × (x.1.file < y.1.file))

-- `all` is `first`, and then exactly what Is, in this order
pub record ListsBy (A : Type 0) (Before : ℕ × A → ℕ × A → Type 0) (first : List (ℕ × A)) (Is : ℕ → A → Type 0) (all : List (ℕ × A)) : Type 0 where
  pub rest : List (ℕ × A)
  pub list : all ≡ first ++ rest
  pub ascends : AllPairs Before rest
  pub exact : (id : ℕ) (a : A) → Contains rest (id, a) ↔ Is id a

-- ascending by id
abbrev pub Lists : (A : Type 0) → List (ℕ × A) → (ℕ → A → Type 0) → List (ℕ × A) → Type 0
Lists A first Is all = ListsBy A ById first Is all

-- a log of a record of this id is at hand
abbrev pub IsLogOf : Held → List Record → ℕ → LogFile → Type 0
IsLogOf held rs id a = (l : LogEntry) × Contains rs (kind.Log l) × (l.id ≡ id) × HasLogObject held l a

-- the piece of a record of this id is at hand
abbrev pub IsOwnPiece : Held → List Record → ℕ → Piece → Type 0
IsOwnPiece held rs id a = (p : PieceEntry) × Contains rs (kind.Piece p) × (p.id ≡ id) × HasPieceObject held p a

-- the set of a record of this id is at hand, and has this piece
abbrev pub IsSetPiece : Held → Database → List Record → ℕ → Piece → Type 0
IsSetPiece held base rs id a = (e : SetEntry) × Contains rs (kind.Set e) × (e.id ≡ id) × (s : Set) × HasSetObject held base e s × (m : SetFile) × Contains s.members m × (m.piece ≡ a)

-- of these records of a database, one with this id has this piece at hand, as its own or in its set
abbrev pub IsPieceAmong : Held → Database → List Record → ℕ → Piece → Type 0
IsPieceAmong held base rs id a = IsOwnPiece held rs id a ⊎ IsSetPiece held base rs id a

-- a full or level 0 piece
abbrev pub IsBaseAmong : Held → Database → List Record → ℕ → Piece → Type 0
IsBaseAmong held base rs id a = IsPieceAmong held base rs id a × (a.kind ≢ Level1)

-- a level 1 piece
abbrev pub IsLevel1Among : Held → Database → List Record → ℕ → Piece → Type 0
IsLevel1Among held base rs id a = IsPieceAmong held base rs id a × (a.kind ≡ Level1)

-- so of all records
abbrev pub IsBaseOf : Held → List Record → ℕ → Piece → Type 0
IsBaseOf held rs id a = IsBaseAmong held (database_in rs) rs id a

abbrev pub IsLevel1Of : Held → List Record → ℕ → Piece → Type 0
IsLevel1Of held rs id a = IsLevel1Among held (database_in rs) rs id a

pub record IsGathered (held : Held) (rs : List Record) (place : InPlace) (e : Evidence) : Type 0 where
  pub bases : ListsBy Piece ByIdAndFile (placed (map (placed_piece (dbid_in rs)) place.files)) (IsBaseOf held rs) e.bases
  pub level1s : ListsBy Piece ByIdAndFile [] (IsLevel1Of held rs) e.level1s
  pub logs : Lists LogFile (placed place.logs) (IsLogOf held rs) e.logs
  pub skipped : Lists _ [] (IsSkipped held rs) e.skipped
