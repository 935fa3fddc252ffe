-- What is true of each state, whatever was written: its records are valid, and what is in place could be so.
use Rattle.std.specs.Prelude.{ℕ, ◌≡◌, ◌<◌, ◌≤◌, ◌+◌, ◌^◌, true, false, Option, Some, None, List, All, length, slice_get}
use Rattle.rm_base.specs.declared.block.Row.{Row}
use Rattle.rm_blocks.specs.File.{File, IsInOrder}
use Rattle.rm_history.specs.{Artefacts.{high_of}, Tree.{IsThere, reset_of, end_of}, World.{exists}, declared.tree.Incarnation.{Incarnation}}
use Rattle.rm_history.specs.declared.world.Datafile.{Datafile}
use Rattle.rm_redo.specs.{LogFormat.{IsLogFile}, Online.{IsThread, has_log, no_log}, declared.log_file.LogFile.{LogFile}}
use Rattle.rm_redo.specs.declared.online.ThreadLog.{ThreadLog}
use Rattle.rm_catalog_typed.specs.{Facts.{IsTypedCatalog}, Switches.{is_enabled_in}}
use Rattle.rm_machine.specs.{State.{ledger, tree, world, current_of, now_of, counted, online, redo_end, is_lost}, Damage.{AreDamaged}}
use Rattle.rm_machine.specs.{Tracked.{AreTracked}, declared.state.State.{State}}

-- the version is that of a change, and the content has 64 bytes
pub record IsPlacedRow (r : Row) : Type 0 where
  pub version : 1 ≤ r.version
  pub content : length r.content.0 ≡ 64

-- What stands in place of datafile k + 1 is a whole copy of it, of an incarnation that is there, and lies
-- up to its end.
pub record IsPlaced (ns : List Incarnation) (k : ℕ) (d : Datafile) (x : File) : Type 0 where
  pub file : x.file ≡ k + 1
  pub blocks : length x.rows ≡ d.blocks
  pub order : IsInOrder x.rows
  pub rows : All IsPlacedRow x.rows
  pub there : IsThere ns x.inc
  pub checkpoint : 1 ≤ x.checkpoint
  pub high : high_of x.checkpoint x.rows ≤ end_of ns x.inc

-- each datafile has its place, and what stands there could
pub record ArePlaced (s : State) : Type 0 where
  pub many : length s.instance.place ≡ length (ledger s).files
  pub each : (k : ℕ) (d : Datafile) (x : File) → slice_get (ledger s).files k ≡ Some d → slice_get s.instance.place k ≡ Some (Some x) → IsPlaced (tree s) k d (counted s x)

-- an online log could be archived: it is valid, and of its incarnation
pub record IsOnline (ns : List Incarnation) (l : LogFile) : Type 0 where
  pub valid : IsLogFile l
  pub begun : reset_of ns l.inc ≤ l.first

-- where the thread is not there, nothing stands in its place
abbrev pub IsGone : ThreadLog → Type 0
IsGone l = l.is_there ≡ false → l ≡ no_log

-- The logs are of the database and of an incarnation that is there. Those of the threads 1 to 4 have one that are enabled at its end, and
-- those that are not lost fit.
pub record AreOnline (s : State) : Type 0 where
  pub dbid : s.instance.logs.dbid ≡ (ledger s).base.dbid
  pub there : IsThere (tree s) s.instance.logs.inc
  pub four : length s.instance.logs.threads ≡ 4
  pub threads : (t : ℕ) → 0 < t → t ≤ 4 → has_log s.instance.logs t ≡ is_enabled_in (ledger s) s.instance.logs.inc (redo_end s) t
  pub gone : All IsGone s.instance.logs.threads
  pub each : (t : ℕ) → IsThread s.instance.logs t → is_lost s.instance.logs t ≡ false → IsOnline (tree s) (online s t)

-- an open database writes redo of its current incarnation, lost no log, and has no point
pub record IsOpen (s : State) : Type 0 where
  pub inc : s.instance.logs.inc ≡ current_of s
  pub found : (t : ℕ) → IsThread s.instance.logs t → is_lost s.instance.logs t ≡ false
  pub point : s.instance.point ≡ None

-- the datafile stands in place at (i, at), above all its versions
pub record StandsAt (place : List (Option File)) (i at k : ℕ) : Type 0 where
  pub file : File
  pub is : slice_get place k ≡ Some (Some file)
  pub inc : file.inc ≡ i
  pub checkpoint : file.checkpoint ≡ at
  pub below : All (λ r. r.version < at) file.rows

-- the point lies within the current incarnation, and each datafile that exists there stands at it
pub record IsPoint (s : State) (at : ℕ) : Type 0 where
  pub low : reset_of (tree s) (current_of s) ≤ at
  pub high : at ≤ now_of s
  pub stands : (k : ℕ) (d : Datafile) → slice_get (ledger s).files k ≡ Some d → exists (world s) (current_of s) at d ≡ true → StandsAt s.instance.place (current_of s) at k

pub record IsSound (s : State) : Type 0 where
  pub catalog : IsTypedCatalog s.catalog
  pub dbid : (ledger s).base.dbid < 2 ^ 32
  pub place : ArePlaced s
  pub logs : AreOnline s
  pub damaged : AreDamaged s
  pub tracker : AreTracked s
  pub in_open : s.instance.is_open ≡ true → IsOpen s
  pub point : (at : ℕ) → s.instance.point ≡ Some at → IsPoint s at
