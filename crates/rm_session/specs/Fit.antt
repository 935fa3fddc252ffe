-- What is loaded of a saved site: what the store has of one part, and what fits whatever the store holds.
use Rattle.std.specs.Prelude.{ℕ, ◌≡◌, ◌+◌, ◌<◌, ◌&&◌, not, Bool, true, Option, Some, None, IfSome, List, [], All, length, slice_get}
use Rattle.rm_base.specs.Store.{Held}
use Rattle.rm_blocks.specs.File.{File}
use Rattle.rm_catalog.specs.declared.record.PartEntry.{PartEntry}
use Rattle.rm_history.specs.{World.{exists}, declared.world.Datafile.{Datafile}}
use Rattle.rm_catalog_typed.specs.{Ledger.{Ledger}, TypedCatalog.{Saved}}
use Rattle.rm_machine.specs.Loading.{AreLoadedLogs, IsLoadedFile, IsLoadedPoint, IsTheOne, file_in, lost_instance, online_of}
use Rattle.rm_machine.specs.{Saved.{FitsInPlace, FitsOnline, HasPart, IsGoodLog}, Sound.{StandsAt}}
use Rattle.rm_machine.specs.{State.{has_lost, current_of, ledger, now_of, world}, Tracked.{first_tracker}}
use Rattle.rm_machine.specs.declared.state.{Instance.{Instance}, State.{State}}
use Rattle.rm_evidence.specs.Objects.{HasDigest}
use Rattle.rm_piece.specs.{Valid.{IsPiece}, declared.piece.Piece.{Piece}}
use Rattle.rm_piece.specs.Spelling as piece_format
use Rattle.rm_redo.specs.{LogFormat.{IsLogFile}, Logs.{Logs}, declared.log_file.LogFile.{LogFile}}
use Rattle.rm_redo.specs.LogFormat as log_format

-- the bytes have the digest of the part, and spell this piece
pub record IsPieceOf (p : PartEntry) (bytes : List ℕ) (a : Piece) : Type 0 where
  pub digest : HasDigest bytes p.size p.sha
  pub valid : IsPiece a
  pub spelled : bytes ≡ piece_format.spelling a

-- the bytes have the digest of the part, and spell this log
pub record IsLogOf (p : PartEntry) (bytes : List ℕ) (a : LogFile) : Type 0 where
  pub digest : HasDigest bytes p.size p.sha
  pub valid : IsLogFile a
  pub spelled : bytes ≡ log_format.spelling a

-- the store has this piece under the name of the part
pub record HasPiecePart (held : Held) (p : PartEntry) (a : Piece) : Type 0 where
  pub has : HasPart held p (piece_format.spelling a)
  pub valid : IsPiece a

-- the store has this log under the name of the part
pub record HasLogPart (held : Held) (p : PartEntry) (a : LogFile) : Type 0 where
  pub has : HasPart held p (log_format.spelling a)
  pub valid : IsLogFile a

-- a valid piece that could stand in place of datafile f
pub record IsFitPiece (l : Ledger) (opened : Bool) (f : ℕ) (d : Datafile) (a : Piece) : Type 0 where
  pub valid : IsPiece a
  pub fits : FitsInPlace l opened f d a

-- a valid log that could be that of thread t
pub record IsFitLog (l : Ledger) (opened : Bool) (t : ℕ) (a : LogFile) : Type 0 where
  pub valid : IsLogFile a
  pub fits : FitsOnline l opened t a

-- what of this piece, or of none, is let through where it fits
abbrev pub IsWhereFits : Ledger → Bool → ℕ → Datafile → Option Piece → Option Piece → Type 0
IsWhereFits l opened f d piece found = IsTheOne (λ a. (piece ≡ Some a) × FitsInPlace l opened f d a) found

abbrev pub IsWhereLogFits : Ledger → Bool → ℕ → Option LogFile → Option LogFile → Type 0
IsWhereLogFits l opened t log found = IsTheOne (λ a. (log ≡ Some a) × FitsOnline l opened t a) found

-- what stands in place is of such a piece
pub record IsFitFile (l : Ledger) (opened : Bool) (f : ℕ) (d : Datafile) (x : File) : Type 0 where
  pub piece : Piece
  pub fit : IsFitPiece l opened f d piece
  pub is : x ≡ file_in piece

-- this is so of each item at its place
abbrev pub AllAt : {A : Type 0} → (ℕ → A → Type 0) → List A → Type 0
AllAt {A} P xs = (k : ℕ) (x : A) → slice_get xs k ≡ Some x → P k x

-- of datafile k + 1
abbrev pub FitsAt : Ledger → Bool → ℕ → Option File → Type 0
FitsAt l opened k x = (d : Datafile) → slice_get l.files k ≡ Some d → IfSome x (IsFitFile l opened (k + 1) d)

abbrev pub IsLoadedAt : Held → Ledger → Saved → ℕ → Option File → Type 0
IsLoadedAt held l site k x = (d : Datafile) → slice_get l.files k ≡ Some d → IsLoadedFile held l site (k + 1) d x

-- of thread k + 1
abbrev pub LogFitsAt : Ledger → Bool → ℕ → Option LogFile → Type 0
LogFitsAt l opened k a = IfSome a (IsFitLog l opened (k + 1))

abbrev pub IsLogAt : Held → Ledger → Saved → ℕ → Option LogFile → Type 0
IsLogAt held l site k a = IsTheOne (IsGoodLog held l site (k + 1)) a

-- the online logs are of logs that fit
pub record AreFitLogs (l : Ledger) (opened : Bool) (logs : Logs) : Type 0 where
  pub parts : List (Option LogFile)
  pub many : length parts ≡ 4
  pub fit : AllAt (LogFitsAt l opened) parts
  pub are : logs ≡ online_of l parts

-- what is loaded of this site, the point left aside, whatever the store holds
pub record IsFit (l : Ledger) (site : Saved) (i : Instance) : Type 0 where
  pub many : length i.place ≡ length l.files
  pub place : AllAt (FitsAt l site.head.opened) i.place
  pub logs : AreFitLogs l site.head.opened i.logs
  pub is_open : i.is_open ≡ (site.head.opened && not (has_lost i.logs))
  pub point : i.point ≡ None
  pub damaged : i.damaged ≡ []
  pub tracker : i.tracker ≡ first_tracker i.is_open l

-- and what is loaded of it where the store has these objects
pub record IsHad (held : Held) (l : Ledger) (site : Saved) (i : Instance) : Type 0 where
  pub many : length i.place ≡ length l.files
  pub place : AllAt (IsLoadedAt held l site) i.place
  pub logs : AreLoadedLogs held l site i.logs
  pub is_open : i.is_open ≡ (site.head.opened && not (has_lost i.logs))
  pub damaged : i.damaged ≡ []
  pub tracker : i.tracker ≡ first_tracker i.is_open l

-- by the catalog: without a saved site all is lost
abbrev pub IsFitBy : Ledger → Option Saved → Instance → Type 0
IsFitBy l None i = i ≡ lost_instance l
IsFitBy l (Some site) i = IsFit l site i

abbrev pub IsHadBy : Held → Ledger → Option Saved → Instance → Type 0
IsHadBy held l None i = i ≡ lost_instance l
IsHadBy held l (Some site) i = IsHad held l site i

-- each datafile in place stands at `now`
abbrev pub StandNow : State → Type 0
StandNow s = (k : ℕ) (d : Datafile) (x : File) → slice_get (ledger s).files k ≡ Some d → slice_get s.instance.place k ≡ Some (Some x) → (x.inc ≡ current_of s) × (x.checkpoint ≡ now_of s)

-- the state with this point
abbrev pub with_point : State → Option ℕ → State
with_point s point = record s { instance = record s.instance { point = point } }

-- the point of what is loaded by the catalog
abbrev pub IsPointBy : State → Option Saved → Option ℕ → Type 0
IsPointBy s None point = point ≡ None
IsPointBy s (Some site) point = IsLoadedPoint (with_point s point) site.head site.head.opened s.instance.is_open

-- what is in place is not lost, and stands at (i, at), above all its versions
abbrev pub IsStanding : ℕ → ℕ → Option File → Type 0
IsStanding i at None = ⊥
IsStanding i at (Some x) = (x.inc ≡ i) × (x.checkpoint ≡ at) × All (λ r. r.version < at) x.rows

-- each datafile that exists at (i, at) stands there
abbrev pub AllStand : State → ℕ → ℕ → Type 0
AllStand s i at = (k : ℕ) (d : Datafile) → slice_get (ledger s).files k ≡ Some d → exists (world s) i at d ≡ true → StandsAt s.instance.place i at k
