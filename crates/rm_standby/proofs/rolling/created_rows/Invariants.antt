use Rattle.std.proofs.Common.{◌≡◌}
use Rattle.rm_history.specs.State.{rows_from}
use Rattle.rm_base.specs.Created.{created_row}
use Rattle.rm_standby.proofs.rolling.created_rows.Given as goal

abbrev pub invariant-loop-block : goal.invariant-loop-block
invariant-loop-block l = l.rows.items ≡ rows_from (created_row l.creation) 0 l.block
