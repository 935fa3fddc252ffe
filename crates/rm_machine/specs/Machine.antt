-- The machine: a database, and what nobody sees of it.
use Rattle.std.specs.Prelude.{ℕ, ◌≡◌, ◌⊎◌, ◌≤◌, ◌<◌, true, false, Option, Some, None, List, [], All, Contains, length, slice_get}
use Rattle.rm_base.specs.{Store.{Held}, declared.{block.{BlockId.{BlockId}, Change.{Change}}, kinds.Kind.{Kind, TheVariants.{Level1}}}}
use Rattle.rm_blocks.specs.File.{File, base_of}
use Rattle.rm_catalog.specs.declared.record.{LogEntry.{LogEntry}, PieceEntry.{PieceEntry}, SetEntry.{SetEntry}}
use Rattle.rm_history.specs.{Agrees.{BaseAgrees, Level1Agrees, LogAgrees}, History.{IsHistory}, State.{state}, Tree.{IsThere, end_of}}
use Rattle.rm_history.specs.{World.{exists}, declared.{tree.Incarnation.{Incarnation}, world.{Datafile.{Datafile}, World.{World}}}}
use Rattle.rm_track.specs.Told.{Tell}
use Rattle.rm_catalog_typed.specs.{Ledger.{Ledger}, Worlds.{database_of}}
use Rattle.rm_evidence.specs.{Database.{Database}, Names.{log_name, piece_name, set_name}}
use Rattle.rm_evidence.specs.Objects.{HasDigest, HasLogFields, HasPieceFields, HasSetFields}
use Rattle.rm_piece.specs.{Sets.{IsSet}, SetSpelling.{set_spelling}, Valid.{IsPiece}, declared.{piece.Piece.{Piece}, set.Set.{Set}}}
use Rattle.rm_piece.specs.Artefacts as piece
use Rattle.rm_piece.specs.Spelling as piece_format
use Rattle.rm_redo.specs.{LogFile.{log_of}, LogFormat.{IsLogFile}, Online.{IsThread}, declared.log_file.LogFile.{LogFile}}
use Rattle.rm_redo.specs.LogFormat as log_format
use Rattle.rm_machine.specs.{Damage.{has_block, has_file}, Effect.{Artefact, a_log, a_piece, a_set, Made}, Sound.{IsSound}}
use Rattle.rm_machine.specs.State.{ledger, tree, world, current_of, now_of, placed, counted, online, is_lost}
use Rattle.rm_machine.specs.declared.state.State.{State}

pub record Machine : Type 0 where
  -- the database, where there is one
  pub state : Option State
  -- each change that was ever made, in their order
  pub history : List Change
  -- the bytes under each name of the store
  pub objects : Held
  -- all artefacts that finished statements ever recorded
  pub made : List Made
  -- the names that HOST statements gave
  pub touched : List (List ℕ)

-- a piece agrees as a level 1, or else as a copy
abbrev pub PieceAgrees : World → List Change → Kind → Piece → Type 0
PieceAgrees w h Level1 a = Level1Agrees w h (piece.level1_of a)
PieceAgrees w h _ a = BaseAgrees w h (piece.base_of a)

-- the artefact agrees with the history
abbrev pub ArtefactAgrees : World → List Change → Artefact → Type 0
ArtefactAgrees w h (a_log a) = LogAgrees h (log_of a)
ArtefactAgrees w h (a_piece a) = PieceAgrees w h a.kind a
ArtefactAgrees w h (a_set a) = All (λ m. PieceAgrees w h m.piece.kind m.piece) a.members

-- it is valid
abbrev pub IsValidArtefact : Artefact → Type 0
IsValidArtefact (a_log a) = IsLogFile a
IsValidArtefact (a_piece a) = IsPiece a
IsValidArtefact (a_set a) = IsSet a

-- the piece is of an incarnation that is there, up to its end
abbrev pub PieceEndsWithin : List Incarnation → Piece → Type 0
PieceEndsWithin tree a = IsThere tree a.inc × (a.checkpoint ≤ a.high) × (a.high ≤ end_of tree a.inc)

-- so is the artefact, a set by each of its pieces
abbrev pub EndsWithin : List Incarnation → Artefact → Type 0
EndsWithin tree (a_log a) = IsThere tree a.inc × (a.next ≤ end_of tree a.inc)
EndsWithin tree (a_piece a) = PieceEndsWithin tree a
EndsWithin tree (a_set a) = All (λ m. PieceEndsWithin tree m.piece) a.members

-- a piece is of a datafile that is there, and so is each piece of a set
abbrev pub IsOfDatafile : World → Artefact → Type 0
IsOfDatafile w (a_log a) = Unit {0}
IsOfDatafile w (a_piece a) = a.file ≤ length w.files
IsOfDatafile w (a_set a) = All (λ m. m.piece.file ≤ length w.files) a.members

-- what is true of each artefact that was ever recorded
pub record IsTrueArtefact (w : World) (h : List Change) (a : Artefact) : Type 0 where
  pub agrees : ArtefactAgrees w h a
  pub valid : IsValidArtefact a
  pub within : EndsWithin w.tree a
  pub of : IsOfDatafile w a

-- what stands under a name is the spelling of the artefact, unless HOST touched the name
abbrev pub HoldsUnder : Held → List (List ℕ) → List ℕ → List ℕ → Type 0
HoldsUnder objects touched name bytes = Contains touched name ⊎ (objects name ≡ Some bytes)

-- the record is that of an artefact, which stands under its name
pub record HasLogArtefact (objects : Held) (made : List Made) (touched : List (List ℕ)) (l : LogEntry) : Type 0 where
  pub artefact : LogFile
  pub is : Contains made (record { name = log_name l.id; artefact = a_log artefact })
  pub fields : HasLogFields l artefact
  pub digest : HasDigest (log_format.spelling artefact) l.size l.sha
  pub there : HoldsUnder objects touched (log_name l.id) (log_format.spelling artefact)

pub record HasPieceArtefact (objects : Held) (made : List Made) (touched : List (List ℕ)) (p : PieceEntry) : Type 0 where
  pub artefact : Piece
  pub is : Contains made (record { name = piece_name p.copy p.id; artefact = a_piece artefact })
  pub fields : HasPieceFields p artefact
  pub digest : HasDigest (piece_format.spelling artefact) p.size p.sha
  pub there : HoldsUnder objects touched (piece_name p.copy p.id) (piece_format.spelling artefact)

pub record HasSetArtefact (objects : Held) (made : List Made) (touched : List (List ℕ)) (base : Database) (e : SetEntry) : Type 0 where
  pub artefact : Set
  pub is : Contains made (record { name = set_name e.id; artefact = a_set artefact })
  pub fields : HasSetFields base e artefact
  pub digest : HasDigest (set_spelling artefact) e.size e.sha
  pub there : HoldsUnder objects touched (set_name e.id) (set_spelling artefact)

-- each record has its artefact
pub record HaveArtefacts (objects : Held) (made : List Made) (touched : List (List ℕ)) (l : Ledger) : Type 0 where
  pub logs : (e : LogEntry) → Contains l.logs e → HasLogArtefact objects made touched e
  pub pieces : (e : PieceEntry) → Contains l.pieces e → HasPieceArtefact objects made touched e
  pub sets : (e : SetEntry) → Contains l.sets e → HasSetArtefact objects made touched (database_of l) e

-- each row is the state of its block at (i, s)
abbrev pub RowsAre : World → List Change → ℕ → ℕ → File → Type 0
RowsAre w h i s x = All (λ r. r ≡ state w h i s x.file r.block) x.rows

-- each row, but for those of blocks on the list
abbrev pub SoundRowsAre : List BlockId → World → List Change → ℕ → ℕ → File → Type 0
SoundRowsAre damaged w h i s x = All (λ r. has_block damaged x.file r.block ≡ false → r ≡ state w h i s x.file r.block) x.rows

-- the history and what is in place go together
pub record HistoryFits (s : State) (h : List Change) : Type 0 where
  pub history : IsHistory (world s) h
  -- each change lies below the end of its incarnation
  pub below : All (λ c. c.scn < end_of (tree s) c.inc) h
  -- each online log that is not lost agrees, and so does each datafile in place of which no block is damaged
  pub online : (t : ℕ) → IsThread s.instance.logs t → is_lost s.instance.logs t ≡ false → LogAgrees h (log_of (online s t))
  pub place : (f : ℕ) (x : File) → placed s f ≡ Some x → has_file s.instance.damaged x.file ≡ false → BaseAgrees (world s) h (base_of (counted s x))
  -- the bitmaps tell the changes of the current incarnation
  pub tracker : Tell (current_of s) h (now_of s) s.instance.tracker
  -- in an open database it has the state at `now`, but for damaged blocks
  pub in_open : s.instance.is_open ≡ true → (f : ℕ) (x : File) → placed s f ≡ Some x → SoundRowsAre s.instance.damaged (world s) h (current_of s) (now_of s) x
  -- and what stands at the point has the state there
  pub point : (at : ℕ) → s.instance.point ≡ Some at → (k : ℕ) (d : Datafile) (x : File) → slice_get (ledger s).files k ≡ Some d → exists (world s) (current_of s) at d ≡ true → slice_get s.instance.place k ≡ Some (Some x) → RowsAre (world s) h (current_of s) at x

-- the state is borne out by all that nobody sees: the history, the objects, and what was ever made
pub record IsBorneOut (s : State) (h : List Change) (objects : Held) (made : List Made) (touched : List (List ℕ)) : Type 0 where
  pub state : IsSound s
  pub keeps : HistoryFits s h
  pub artefacts : (a : Made) → Contains made a → IsTrueArtefact (world s) h a.artefact
  pub records : HaveArtefacts objects made touched (ledger s)

-- a database is borne out; without one nothing was ever written or recorded
abbrev pub IsSoundBy : Option State → List Change → Held → List Made → List (List ℕ) → Type 0
IsSoundBy None h objects made touched = (h ≡ []) × (made ≡ [])
IsSoundBy (Some s) h objects made touched = IsBorneOut s h objects made touched

abbrev pub IsSoundMachine : Machine → Type 0
IsSoundMachine m = IsSoundBy m.state m.history m.objects m.made m.touched

-- Digests tell: where HOST touched the name of a record, bytes under it that have the record's size and SHA-256
-- are those that it was made for.
pub record DigestsTellFor (objects : Held) (made : List Made) (touched : List (List ℕ)) (l : Ledger) : Type 0 where
  pub logs : (e : LogEntry) (a : LogFile) (bytes : List ℕ) → Contains touched (log_name e.id) → Contains l.logs e → Contains made (record { name = log_name e.id; artefact = a_log a }) → HasDigest (log_format.spelling a) e.size e.sha
      → objects (log_name e.id) ≡ Some bytes → HasDigest bytes e.size e.sha → bytes ≡ log_format.spelling a
  pub pieces : (e : PieceEntry) (a : Piece) (bytes : List ℕ) → Contains touched (piece_name e.copy e.id) → Contains l.pieces e → Contains made (record { name = piece_name e.copy e.id; artefact = a_piece a }) → HasDigest (piece_format.spelling a) e.size e.sha
      → objects (piece_name e.copy e.id) ≡ Some bytes → HasDigest bytes e.size e.sha → bytes ≡ piece_format.spelling a
  pub sets : (e : SetEntry) (a : Set) (bytes : List ℕ) → Contains touched (set_name e.id) → Contains l.sets e → Contains made (record { name = set_name e.id; artefact = a_set a }) → HasDigest (set_spelling a) e.size e.sha
      → objects (set_name e.id) ≡ Some bytes → HasDigest bytes e.size e.sha → bytes ≡ set_spelling a

abbrev pub TellBy : Option State → Held → List Made → List (List ℕ) → Type 0
TellBy None objects made touched = Unit {0}
TellBy (Some s) objects made touched = DigestsTellFor objects made touched (ledger s)

abbrev pub DigestsTell : Machine → Type 0
DigestsTell m = TellBy m.state m.objects m.made m.touched
