use Rattle.std.proofs.Common.{◌≡◌, ◌≤◌, ◌-◌, length, take}
use Rattle.rm_lanes.specs.Bits.{set_count}
use Rattle.rm_lanes.proofs.bits.count_ones.Given as goal

abbrev pub invariant-lanes : goal.invariant-lanes
invariant-lanes l = record { within : l.i ≤ length l.bits; value : l.count ≡ set_count (take l.i l.bits) }

abbrev pub decreases-lanes : goal.decreases-lanes
decreases-lanes l = length l.bits - l.i

abbrev pub invariant-tail : goal.invariant-tail
invariant-tail l = record { within : l.i ≤ length l.bits; value : l.count ≡ set_count (take l.i l.bits) }

abbrev pub decreases-tail : goal.decreases-tail
decreases-tail l = length l.bits - l.i
