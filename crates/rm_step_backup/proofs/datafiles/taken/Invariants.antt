use Rattle.std.proofs.Common.{◌≡◌, ◌+◌, ◌++◌, drop}
use Rattle.rm_machine.specs.{Backup.{taken, taken_from}, State.{ledger}}
use Rattle.rm_step_backup.proofs.datafiles.taken.Given as goal

abbrev pub invariant-loop-index : goal.invariant-loop-index
invariant-loop-index l = l.files.items ++ taken_from l.state l.form (l.index + 1) (drop l.index (ledger l.state).files) ≡ taken l.state l.form
