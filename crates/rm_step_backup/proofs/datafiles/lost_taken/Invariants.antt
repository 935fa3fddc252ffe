use Rattle.std.proofs.Common.{◌≡◌, ◌+◌, drop, find, is_none}
use Rattle.rm_machine.specs.{Backup.{lost_taken, taken_from}, State.{ledger, placed}}
use Rattle.rm_step_backup.proofs.datafiles.lost_taken.Given as goal

abbrev pub invariant-loop-index : goal.invariant-loop-index
invariant-loop-index l =
    find (λ f. is_none (placed l.state f)) (taken_from l.state l.form (l.index + 1) (drop l.index (ledger l.state).files)) ≡ lost_taken l.state l.form
