-- Which records the policy does not need.
use Rattle.std.specs.Prelude.{ℕ, List, ◌≡◌, ◌≢◌, ◌≤◌, min, All, Bool, true, false, Some}
use Rattle.rm_base.specs.declared.kinds.Policy.TheVariants.{Nothing}
use Rattle.rm_history.specs.{Tree.{IsShared, end_of}, World.{file_of, exists}, declared.tree.Incarnation.{Incarnation}}
use Rattle.rm_history.specs.declared.world.Datafile.{Datafile}
use Rattle.rm_retain.specs.{Chosen.{Retention, IsChosen, floor}, declared.copies.Backup.{Backup}}

-- The clip of what incarnation inc tells below `high`: `high` itself on the current incarnation, else
-- the lesser of it and the SCN at which the path of inc leaves the current one.
pub data IsClip (tree : List Incarnation) (current inc high : ℕ) : ℕ → Type 0 where
  of_current : inc ≡ current → IsClip tree current inc high high
  of_other : (s : ℕ) → inc ≢ current → IsShared tree inc current s → IsClip tree current inc high (min high s)

-- the clip is at most n
pub record ClipsTo (r : Retention) (inc high n : ℕ) : Type 0 where
  pub clip : ℕ
  pub is : IsClip r.world.tree r.current inc high clip
  pub most : clip ≤ n

-- the datafile is on the current path
pub record IsOnPath (r : Retention) (f : ℕ) : Type 0 where
  pub datafile : Datafile
  pub is : file_of r.world f ≡ Some datafile
  pub exists : exists r.world r.current (end_of r.world.tree r.current) datafile ≡ true

-- A backup is needless where its datafile is not on the current path, or else where its clip is at most
-- the floor of the datafile, and it is not chosen.
pub record IsNeedlessBackup (r : Retention) (x : Backup) : Type 0 where
  pub low : IsOnPath r x.file → ClipsTo r x.inc x.high (floor r x.file)
  pub not_chosen : IsOnPath r x.file → ¬ IsChosen r x.file x.id

-- A log is needless where its clip is at most the floor of each datafile on the current path.
abbrev pub IsNeedlessLog : Retention → ℕ → ℕ → Type 0
IsNeedlessLog r inc next = (f : ℕ) → IsOnPath r f → ClipsTo r inc next (floor r f)

-- A record is obsolete where it is needless, and none to be kept. Without a policy none is.
pub record IsObsoleteBackup (r : Retention) (x : Backup) (keep : Bool) : Type 0 where
  pub policy : r.policy ≢ Nothing
  pub not_kept : keep ≡ false
  pub needless : IsNeedlessBackup r x

-- A set goes as a whole: where what it has of each of its datafiles is needless.
pub record IsObsoleteSet (r : Retention) (xs : List Backup) (keep : Bool) : Type 0 where
  pub policy : r.policy ≢ Nothing
  pub not_kept : keep ≡ false
  pub needless : All (IsNeedlessBackup r) xs

pub record IsObsoleteLog (r : Retention) (inc next : ℕ) (keep : Bool) : Type 0 where
  pub policy : r.policy ≢ Nothing
  pub not_kept : keep ≡ false
  pub needless : IsNeedlessLog r inc next
