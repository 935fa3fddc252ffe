use Rattle.std.proofs.Common.{ℕ, ◌≡◌, ◌<◌, ◌≤◌, ◌-◌, length, slice_index}
use Rattle.rm_lanes.proofs.bits.skip_zeros.Given as goal

abbrev pub invariant-lanes : goal.invariant-lanes
invariant-lanes l = record { within : l.i ≤ length l.bytes; reached : l.from ≤ l.i; zeros : (k : ℕ) → l.from ≤ k → k < l.i → slice_index l.bytes k ≡ 0 }

abbrev pub decreases-lanes : goal.decreases-lanes
decreases-lanes l = length l.bytes - l.i

abbrev pub invariant-tail : goal.invariant-tail
invariant-tail l = record { within : l.i ≤ length l.bytes; reached : l.from ≤ l.i; zeros : (k : ℕ) → l.from ≤ k → k < l.i → slice_index l.bytes k ≡ 0 }

abbrev pub decreases-tail : goal.decreases-tail
decreases-tail l = length l.bytes - l.i
