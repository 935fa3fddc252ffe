use Rattle.std.proofs.Common.{take}
use Rattle.rm_apply.specs.{Restore.{IsBackupFor}, Taking.{base_at}}
use Rattle.rm_apply.proofs.choice.choose.Given as goal

abbrev pub invariant-loop-place : goal.invariant-loop-place
invariant-loop-place l = IsBackupFor l.tree (take l.place l.bases) l.i l.s l.number (base_at l.bases l.best)
