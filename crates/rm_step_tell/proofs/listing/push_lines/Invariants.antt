use Rattle.std.{specs.Vec.Iter.{into_iter_items}, proofs.Common.{◌≡◌, ◌++◌}}
use Rattle.rm_step_tell.proofs.listing.push_lines.Given as goal

abbrev pub invariant-loop-line : goal.invariant-loop-line
invariant-loop-line l = l.lines ++ into_iter_items l.line-iterator ≡ l.fn.lines ++ into_iter_items l.initial.line-iterator
