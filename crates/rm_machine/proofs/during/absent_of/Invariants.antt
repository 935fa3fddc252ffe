use Rattle.std.proofs.Common.{◌≡◌, drop}
use Rattle.rm_machine.specs.BackupRefusal.{absent_of}
use Rattle.rm_machine.proofs.during.absent_of.Given as goal

abbrev pub invariant-loop-write : goal.invariant-loop-write
invariant-loop-write l = absent_of l.state (drop l.write-index l.writes) ≡ absent_of l.state l.writes
