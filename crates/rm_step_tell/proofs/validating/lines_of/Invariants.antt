use Rattle.std.proofs.Common.{◌≡◌, map, take}
use Rattle.rm_report.specs.declared.line.Line.TheVariants.{BadOf}
use Rattle.rm_step_tell.proofs.validating.lines_of.Given as goal

abbrev pub invariant-loop-id : goal.invariant-loop-id
invariant-loop-id l = l.lines ≡ map (λ x. BadOf x.0 x.1) (take l.id-index l.bad)
