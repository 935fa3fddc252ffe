use Rattle.std.specs.List.{AllAdjacentBelow}
use Rattle.rm_redo.specs.Logs.{IsBefore}
use Rattle.rm_redo.proofs.log_valid.ascend.Given as goal

abbrev pub invariant-loop-i : goal.invariant-loop-i
invariant-loop-i l = AllAdjacentBelow IsBefore l.records l.i
