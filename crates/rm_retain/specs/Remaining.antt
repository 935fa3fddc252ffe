-- Retention by the copies that remain.
use Rattle.std.specs.Prelude.{◌⊎◌, List, Contains}
use Rattle.rm_retain.specs.{Chosen.{Retention, Ascend}, Obsolete.{IsNeedlessBackup}, declared.copies.Backup.{Backup}}

-- retention by other copies
abbrev pub with_copies : Retention → List Backup → Retention
with_copies r left = record r { copies = left }

-- `left` is what remains of the copies when some needless ones went
pub record AreRemaining (r : Retention) (left : List Backup) : Type 0 where
  pub ascend : Ascend r.copies
  pub ascend_left : Ascend left
  pub had : (x : Backup) → Contains left x → Contains r.copies x
  pub stays : (x : Backup) → Contains r.copies x → Contains left x ⊎ IsNeedlessBackup r x
