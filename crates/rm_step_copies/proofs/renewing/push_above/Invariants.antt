use Rattle.std.proofs.Common.{◌≡◌, ◌++◌, map, take}
use Rattle.rm_report.specs.declared.line.Line.TheVariants.{StartsAbove}
use Rattle.rm_step_copies.proofs.renewing.push_above.Given as goal

abbrev pub invariant-loop-id : goal.invariant-loop-id
invariant-loop-id l = l.lines ≡ l.fn.lines ++ map (λ y. StartsAbove y.0 y.1 l.checkpoint) (take l.id-index l.above)
