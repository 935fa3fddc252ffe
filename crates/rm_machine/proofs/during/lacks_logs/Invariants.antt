use Rattle.std.proofs.Common.{◌≡◌, ◌+◌, ◌-◌}
use Rattle.rm_machine.specs.BackupRefusal.{lacks_logs}
use Rattle.rm_machine.proofs.during.lacks_logs.Given as goal

abbrev pub invariant-loop-index : goal.invariant-loop-index
invariant-loop-index l = lacks_logs l.state l.writes (l.index + 1) (4 - l.index) ≡ lacks_logs l.state l.writes 1 4
