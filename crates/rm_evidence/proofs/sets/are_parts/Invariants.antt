use Rattle.std.proofs.Common.{◌↔◌, drop}
use Rattle.rm_evidence.specs.Objects.{AreParts}
use Rattle.rm_evidence.proofs.sets.are_parts.Given as goal

abbrev pub invariant-loop-k : goal.invariant-loop-k
invariant-loop-k l = AreParts l.parts l.members ↔ AreParts (drop l.k l.parts) (drop l.k l.members)
