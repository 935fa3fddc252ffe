use Rattle.std.{specs.Vec.Iter.{into_iter_items}, proofs.Common.{◌≡◌, ◌++◌}}
use Rattle.rm_tool.proofs.block.add_lines.Given as goal

abbrev pub invariant-loop-line : goal.invariant-loop-line
invariant-loop-line l = l.lines ++ into_iter_items l.line-iterator ≡ l.fn.lines ++ l.fn.more
