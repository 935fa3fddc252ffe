use Rattle.std.{specs.{Iterator.Adapters.{zip_first, zip_second}, Slice.Iter.{iter_rest}}, proofs.Common.{◌≡◌, ◌++◌}}
use Rattle.rm_machine.specs.Restore.{origin_lines}
use Rattle.rm_step_recover.proofs.lines.push_origins.Given as goal

abbrev pub invariant-loop-number : goal.invariant-loop-number
invariant-loop-number l =
    l.lines ++ origin_lines (iter_rest (zip_first l.number-iterator)) (iter_rest (zip_second l.number-iterator)) ≡ l.fn.lines ++ origin_lines l.numbers l.origins
