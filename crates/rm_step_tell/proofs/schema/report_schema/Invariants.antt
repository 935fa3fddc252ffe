use Rattle.std.proofs.Common.{◌≡◌, ◌++◌, ◌+◌, drop}
use Rattle.rm_machine.specs.{Shown.{schema_lines}, State.{ledger}}
use Rattle.rm_step_tell.proofs.schema.report_schema.Given as goal

abbrev pub invariant-loop-index : goal.invariant-loop-index
invariant-loop-index l = l.lines ++ schema_lines l.state (l.index + 1) (drop l.index (ledger l.state).files) ≡ schema_lines l.state 1 (ledger l.state).files
