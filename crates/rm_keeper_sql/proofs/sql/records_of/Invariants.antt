use Rattle.std.proofs.Common.{take}
use Rattle.rm_keeper_sql.specs.Loads.{AreRows}
use Rattle.rm_keeper_sql.proofs.sql.records_of.Given as goal

abbrev pub invariant-loop-row : goal.invariant-loop-row
invariant-loop-row l = AreRows l.records (take l.row-index l.rows)
