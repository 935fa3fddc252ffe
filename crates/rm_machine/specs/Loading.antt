-- What is loaded of a saved site stands in place; all else is lost.
use Rattle.std.specs.Prelude.{ℕ, ◌≡◌, ◌+◌, ◌==◌, ◌&&◌, not, if◌then◌else◌, Bool, true, false, Option, Some, None, List, [], ◌∷◌, length, map, replicate, slice_get, slice_index_or}
use Rattle.std.specs.Option.{option_map}
use Rattle.rm_base.specs.Store.{Held}
use Rattle.rm_blocks.specs.File.{File}
use Rattle.rm_catalog.specs.declared.record.HeadEntry.{HeadEntry}
use Rattle.rm_history.specs.{Tree.{end_of}, declared.world.Datafile.{Datafile}}
use Rattle.rm_catalog_typed.specs.{Ledger.{Ledger}, Switches.{enabled_at}, TypedCatalog.{Saved}}
use Rattle.rm_piece.specs.declared.piece.Piece.{Piece}
use Rattle.rm_redo.specs.{Logs.{Logs}, Online.{logs_of, lost_logs}, declared.log_file.LogFile.{LogFile}}
use Rattle.rm_machine.specs.{Mount.{mount_point}, Saved.{IsGoodFile, IsGoodLog}, Sound.{IsPoint}, State.{has_lost, ledger, current_of}}
use Rattle.rm_machine.specs.{Tracked.{first_tracker}, declared.state.{Instance.{Instance}, State.{State}}}

-- what there is of which this is so, or that there is none
abbrev pub IsTheOne : {A : Type 0} → (A → Type 0) → Option A → Type 0
IsTheOne {A} Is None = (x : A) → ¬ Is x
IsTheOne Is (Some x) = Is x

-- a piece as what stands in place of its datafile
abbrev pub file_in : Piece → File
file_in a = record { file = a.file; inc = a.inc; checkpoint = a.checkpoint; rows = a.rows }

-- what is loaded of datafile f: its part where that is good, and else it is lost
pub record IsLoadedFile (held : Held) (l : Ledger) (site : Saved) (f : ℕ) (d : Datafile) (x : Option File) : Type 0 where
  pub part : Option Piece
  pub good : IsTheOne (IsGoodFile held l site f d) part
  pub is : x ≡ option_map file_in part

-- the incarnation of the first of these logs, and this one where there is none
abbrev pub inc_of_first : ℕ → List (Option LogFile) → ℕ
inc_of_first i [] = i
inc_of_first i (None ∷ logs) = inc_of_first i logs
inc_of_first i (Some a ∷ logs) = a.inc

-- the log, where it is of this incarnation
abbrev pub where_of : ℕ → Option LogFile → Option LogFile
where_of i None = None
where_of i (Some a) = if a.inc == i then Some a else None

-- the online logs of the threads that are enabled at the end of the incarnation of the first: those that are of the same incarnation
abbrev pub online_of : Ledger → List (Option LogFile) → Logs
online_of l logs =
    let i = inc_of_first l.base.current logs in
    logs_of l.base.dbid i (enabled_at l i (end_of l.tree i)) (map (where_of i) logs)

-- what is loaded of the threads 1 to 4: their parts where these are good
pub record AreLoadedLogs (held : Held) (l : Ledger) (site : Saved) (logs : Logs) : Type 0 where
  pub parts : List (Option LogFile)
  pub many : length parts ≡ 4
  pub good : (k : ℕ) (a : Option LogFile) → slice_get parts k ≡ Some a → IsTheOne (IsGoodLog held l site (k + 1)) a
  pub are : logs ≡ online_of l parts

-- the head tells this point, and each datafile that exists there stands at it
pub record IsHeadPoint (s : State) (head : HeadEntry) (at : ℕ) : Type 0 where
  pub inc : head.inc ≡ current_of s
  pub scn : head.scn ≡ at
  pub point : IsPoint s at

-- The point of what is loaded: none of an open database; where a log of an open one is lost, that of one that was mounted
-- then; else the head's, where it is one.
abbrev pub IsLoadedPoint : State → HeadEntry → Bool → Bool → Type 0
IsLoadedPoint s head true is_open = s.instance.point ≡ (if is_open then None else mount_point s)
IsLoadedPoint s head false is_open = IsTheOne (IsHeadPoint s head) s.instance.point

-- what runs is loaded of this site
pub record IsLoadedOf (held : Held) (s : State) (site : Saved) : Type 0 where
  pub many : length s.instance.place ≡ length (ledger s).files
  pub place : (k : ℕ) (d : Datafile) → slice_get (ledger s).files k ≡ Some d → IsLoadedFile held (ledger s) site (k + 1) d (slice_index_or s.instance.place k None)
  pub logs : AreLoadedLogs held (ledger s) site s.instance.logs
  pub is_open : s.instance.is_open ≡ (site.head.opened && not (has_lost s.instance.logs))
  pub point : IsLoadedPoint s site.head site.head.opened s.instance.is_open
  pub damaged : s.instance.damaged ≡ []
  pub tracker : s.instance.tracker ≡ first_tracker s.instance.is_open (ledger s)

-- without a saved site the database is mounted, each datafile and each online log is lost, those of the threads that are enabled at the end
-- of the current incarnation, and there is no point
abbrev pub lost_instance : Ledger → Instance
lost_instance l =
    record {
      is_open = false;
      point = None;
      place = replicate (length l.files) None;
      logs = lost_logs l.base.dbid l.base.current (enabled_at l l.base.current (end_of l.tree l.base.current));
      damaged = [];
      tracker = [];
    }

abbrev pub IsLoadedBy : Held → State → Option Saved → Type 0
IsLoadedBy held s None = s.instance ≡ lost_instance (ledger s)
IsLoadedBy held s (Some site) = IsLoadedOf held s site

-- what runs is what is loaded by the catalog, where the store has these objects
abbrev pub IsLoaded : Held → State → Type 0
IsLoaded held s = IsLoadedBy held s s.catalog.saved
