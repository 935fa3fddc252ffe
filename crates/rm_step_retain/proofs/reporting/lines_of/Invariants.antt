use Rattle.std.proofs.Common.{◌≡◌, map, take}
use Rattle.rm_report.specs.declared.line.Line.TheVariants.{Obsolete}
use Rattle.rm_step_retain.proofs.reporting.lines_of.Given as goal

abbrev pub invariant-loop-id : goal.invariant-loop-id
invariant-loop-id l = l.lines ≡ map Obsolete (take l.id-index l.ids)
