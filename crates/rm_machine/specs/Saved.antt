-- A saved site: what was saved of a database, and which of its parts are good.
use Rattle.std.specs.Prelude.{ℕ, ◌≡◌, ◌-◌, ◌<◌, ◌≤◌, ◌==◌, ◌&&◌, Bool, true, Option, Some, None, IsSomeAnd, List, [], All, find, map, slice_get}
use Rattle.rm_base.specs.{Store.{Held}, declared.kinds.Kind.TheVariants.{Place}}
use Rattle.rm_catalog.specs.declared.record.PartEntry.{PartEntry}
use Rattle.rm_history.specs.{Tree.{IsThere, reset_of, end_of}, declared.world.Datafile.{Datafile}}
use Rattle.rm_catalog_typed.specs.{Ledger.{Ledger}, Switches.{is_enabled_in}, TypedCatalog.{Saved}}
use Rattle.rm_evidence.specs.{Names.{site_name}, Objects.{HasDigest}}
use Rattle.rm_piece.specs.{SetSpelling.{set_spelling}, Valid.{IsPiece}, declared.piece.Piece.{Piece}}
use Rattle.rm_piece.specs.Spelling as piece_format
use Rattle.rm_redo.specs.{LogFormat.{IsLogFile}, declared.{log_file.LogFile.{LogFile}, online.LogRecord.{LogRecord}}}
use Rattle.rm_redo.specs.LogFormat as log_format
use Rattle.rm_machine.specs.Effect.{Artefact, a_log, a_piece, a_set}

-- the part of a datafile, and that of a redo thread
abbrev pub file_part : Saved → ℕ → Option PartEntry
file_part site f = find (λ p. p.file == f) site.parts

abbrev pub thread_part : Saved → ℕ → Option PartEntry
thread_part site t = find (λ p. (p.file == 0) && (p.thread == t)) site.parts

-- the names of the objects of a saved site
abbrev pub saved_names : Option Saved → List (List ℕ)
saved_names None = []
saved_names (Some site) = map (λ p. site_name p.id) site.parts

-- The piece could stand in place of datafile f: it is a whole copy of it, of an incarnation that is there, up to its end.
-- In a site that was open it stands at `now` of the current incarnation.
pub record FitsInPlace (l : Ledger) (opened : Bool) (f : ℕ) (d : Datafile) (a : Piece) : Type 0 where
  pub kind : a.kind ≡ Place
  pub dbid : a.dbid ≡ l.base.dbid
  pub file : a.file ≡ f
  pub blocks : a.blocks ≡ d.blocks
  pub there : IsThere l.tree a.inc
  pub end : a.high ≤ end_of l.tree a.inc
  pub in_open : opened ≡ true → (a.inc ≡ l.base.current) × (a.checkpoint ≡ end_of l.tree l.base.current)

-- the record is of a datafile and a block that are there
abbrev pub IsOfBlock : List Datafile → LogRecord → Type 0
IsOfBlock files r = IsSomeAnd (slice_get files (r.file - 1)) (λ d. r.block < d.blocks)

-- The log could be the online log of thread t: it is of an incarnation that is there, up to its end, at which the thread is enabled, and
-- tells of blocks that are there. In a site that was open it is of the current incarnation.
pub record FitsOnline (l : Ledger) (opened : Bool) (t : ℕ) (a : LogFile) : Type 0 where
  pub dbid : a.dbid ≡ l.base.dbid
  pub thread : a.thread ≡ t
  pub there : IsThere l.tree a.inc
  pub first : reset_of l.tree a.inc ≤ a.first
  pub next : a.next ≡ end_of l.tree a.inc
  pub enabled : is_enabled_in l a.inc (end_of l.tree a.inc) t ≡ true
  pub records : All (IsOfBlock l.files) a.records
  pub in_open : opened ≡ true → a.inc ≡ l.base.current

-- the store has these bytes under the name of the part, of its size and its SHA-256
pub record HasPart (held : Held) (p : PartEntry) (bytes : List ℕ) : Type 0 where
  pub there : held (site_name p.id) ≡ Some bytes
  pub digest : HasDigest bytes p.size p.sha

-- the part of datafile f is good, and is this piece
pub record IsGoodFile (held : Held) (l : Ledger) (site : Saved) (f : ℕ) (d : Datafile) (a : Piece) : Type 0 where
  pub part : PartEntry
  pub is : file_part site f ≡ Some part
  pub has : HasPart held part (piece_format.spelling a)
  pub valid : IsPiece a
  pub fits : FitsInPlace l site.head.opened f d a

-- the part of thread t is good, and is this log
pub record IsGoodLog (held : Held) (l : Ledger) (site : Saved) (t : ℕ) (a : LogFile) : Type 0 where
  pub part : PartEntry
  pub is : thread_part site t ≡ Some part
  pub has : HasPart held part (log_format.spelling a)
  pub valid : IsLogFile a
  pub fits : FitsOnline l site.head.opened t a

-- the bytes of an artefact
abbrev pub spelling_of : Artefact → List ℕ
spelling_of (a_log a) = log_format.spelling a
spelling_of (a_piece a) = piece_format.spelling a
spelling_of (a_set a) = set_spelling a

-- a part of a datafile is a piece, and one of a thread a log
abbrev pub IsOfPart : PartEntry → Artefact → Type 0
IsOfPart p (a_log a) = p.file ≡ 0
IsOfPart p (a_piece a) = 0 < p.file
IsOfPart p (a_set a) = ⊥
