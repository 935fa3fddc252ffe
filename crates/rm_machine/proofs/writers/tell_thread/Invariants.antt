use Rattle.std.proofs.Common.{◌≡◌, ◌++◌, map, take}
use Rattle.rm_report.specs.declared.line.Line.TheVariants.{ThreadScn}
use Rattle.rm_machine.proofs.writers.tell_thread.Given as goal

abbrev pub invariant-loop-scn : goal.invariant-loop-scn
invariant-loop-scn l = l.lines ≡ l.fn.lines ++ map (ThreadScn l.thread) (take l.scn-index l.scns)
