use Rattle.std.proofs.Common.{◌≡◌, ◌++◌, drop, map}
use Rattle.rm_machine.specs.Corrupt.{damage_lines}
use Rattle.rm_report.specs.declared.line.Line.TheVariants.{BlockDamaged}
use Rattle.rm_step_tell.proofs.corruption.list_corruption.Given as goal

abbrev pub invariant-loop-damaged : goal.invariant-loop-damaged
invariant-loop-damaged l = l.lines ++ map (λ x. BlockDamaged x.file x.block) (drop l.damaged-index l.state.instance.damaged) ≡ damage_lines l.state
