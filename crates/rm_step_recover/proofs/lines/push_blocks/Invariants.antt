use Rattle.std.proofs.Common.{◌≡◌, ◌++◌, drop}
use Rattle.rm_machine.specs.RecoverTest.{block_lines}
use Rattle.rm_step_recover.proofs.lines.push_blocks.Given as goal

abbrev pub invariant-loop-row : goal.invariant-loop-row
invariant-loop-row l = l.lines ++ block_lines l.creation (drop l.row-index l.rows) ≡ l.fn.lines ++ block_lines l.creation l.rows
