use Rattle.std.proofs.Common.{length, ◌-◌}
use Rattle.rm_lanes.proofs.Ored.{OredBelow}
use Rattle.rm_lanes.proofs.bits.or_into.Given as goal

abbrev pub invariant-lanes : goal.invariant-lanes
invariant-lanes l = OredBelow l.i l.fn.to l.from l.to

abbrev pub decreases-lanes : goal.decreases-lanes
decreases-lanes l = length l.initial.to - l.i

abbrev pub invariant-tail : goal.invariant-tail
invariant-tail l = OredBelow l.i l.fn.to l.from l.to

abbrev pub decreases-tail : goal.decreases-tail
decreases-tail l = length l.initial.to - l.i
