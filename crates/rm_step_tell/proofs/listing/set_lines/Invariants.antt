use Rattle.std.proofs.Common.{◌≡◌, ◌++◌, drop, map}
use Rattle.rm_machine.specs.Lists.{part_line}
use Rattle.rm_step_tell.proofs.listing.set_lines.Given as goal

abbrev pub invariant-loop-part : goal.invariant-loop-part
invariant-loop-part l = l.lines ++ map (part_line l.set) (drop l.part-index l.set.parts) ≡ map (part_line l.set) l.set.parts
