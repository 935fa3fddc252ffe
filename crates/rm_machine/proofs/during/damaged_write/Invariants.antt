use Rattle.std.proofs.Common.{◌≡◌, drop}
use Rattle.rm_machine.specs.BackupRefusal.{damaged_write}
use Rattle.rm_machine.proofs.during.damaged_write.Given as goal

abbrev pub invariant-loop-write : goal.invariant-loop-write
invariant-loop-write l = damaged_write l.state (drop l.write-index l.writes) ≡ damaged_write l.state l.writes
