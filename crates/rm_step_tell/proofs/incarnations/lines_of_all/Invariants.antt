use Rattle.std.proofs.Common.{◌≡◌, ◌++◌, ◌+◌, ◌-◌, length}
use Rattle.rm_machine.specs.ListIncarnation.{incarnation_lines}
use Rattle.rm_step_tell.proofs.incarnations.lines_of_all.Given as goal

abbrev pub invariant-loop-inc : goal.invariant-loop-inc
invariant-loop-inc l =
    l.lines ++ incarnation_lines l.tree l.current l.inc (length l.tree + 1 - l.inc) ≡ incarnation_lines l.tree l.current 1 (length l.tree)
