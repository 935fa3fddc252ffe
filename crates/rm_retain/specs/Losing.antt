-- The evidence before and after needless records went.
use Rattle.std.specs.Prelude.{ℕ, ◌≡◌, ◌<◌, ◌≤◌, ◌⊎◌, List, Contains}
use Rattle.rm_base.specs.{Numbers.{last_scn}, declared.block.{Change.{Change}, Row.{Row}}}
use Rattle.rm_history.specs.{Artefacts.{Base, Level1, Log, high_of}, History.{IsHistory}, Tree.{IsThere, end_of}, World.{blocks_of}}
use Rattle.rm_history.specs.{Evidence.{Evidence, Agrees}, Unknown.{IsWorld}, declared.world.World.{World}}
use Rattle.rm_retain.specs.{Chosen.{Retention}, Obsolete.{IsNeedlessBackup, IsNeedlessLog}, declared.copies.Backup.{Backup}}

-- the record describes a backup of incarnation j and datafile f, with checkpoint c and these rows
pub record Describes (x : Backup) (j f c : ℕ) (rows : List Row) : Type 0 where
  pub inc : x.inc ≡ j
  pub file : x.file ≡ f
  pub checkpoint : x.checkpoint ≡ c
  pub high : x.high ≡ high_of c rows

-- the copy has a row of each block of its datafile
abbrev pub IsWhole : World → Base → Type 0
IsWhole w a = (b : ℕ) → b < blocks_of w a.file → (r : Row) × Contains a.rows r × (r.block ≡ b)

-- the copy that the record describes is at hand
pub record HasCopy (w : World) (e : Evidence) (x : Backup) : Type 0 where
  pub copy : Base
  pub held : Contains e.bases copy
  pub described : Describes x copy.inc copy.file copy.checkpoint copy.rows
  pub whole : IsWhole w copy

-- a needless record describes this backup
pub record IsGone (r : Retention) (j f c : ℕ) (rows : List Row) : Type 0 where
  pub backup : Backup
  pub described : Describes backup j f c rows
  pub needless : IsNeedlessBackup r backup

-- nothing is new in the evidence, and only what is needless went
pub record LosesNeedless (r : Retention) (old new : Evidence) : Type 0 where
  pub bases_had : (a : Base) → Contains new.bases a → Contains old.bases a
  pub level1s_had : (a : Level1) → Contains new.level1s a → Contains old.level1s a
  pub logs_had : (a : Log) → Contains new.logs a → Contains old.logs a
  pub bases : (a : Base) → Contains old.bases a → Contains new.bases a ⊎ IsGone r a.inc a.file a.checkpoint a.rows
  pub level1s : (a : Level1) → Contains old.level1s a → Contains new.level1s a ⊎ IsGone r a.inc a.file a.checkpoint a.rows
  pub logs : (a : Log) → Contains old.logs a → Contains new.logs a ⊎ IsNeedlessLog r a.inc a.next
  pub copies : (x : Backup) → Contains r.copies x → HasCopy r.world new x ⊎ IsNeedlessBackup r x

-- the current incarnation is there and ends in time, and the evidence agrees with this history
pub record FitsHistory (h : List Change) (r : Retention) (e : Evidence) : Type 0 where
  pub world : IsWorld r.world
  pub there : IsThere r.world.tree r.current
  pub end : end_of r.world.tree r.current ≤ last_scn
  pub history : IsHistory r.world h
  pub agrees : Agrees r.world h e
