use Rattle.std.proofs.Common.{◌≡◌, drop}
use Rattle.rm_machine.specs.BackupRefusal.{lost_of}
use Rattle.rm_machine.proofs.during.first_lost.Given as goal

abbrev pub invariant-loop-write : goal.invariant-loop-write
invariant-loop-write l = lost_of l.state (drop l.write-index l.writes) ≡ lost_of l.state l.writes
