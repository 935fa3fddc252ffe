use Rattle.std.proofs.Common.{ℕ, ◌<◌, ◌≤◌, IsBitSet}
use Rattle.rm_lanes.proofs.bits.next_in_byte.Given as goal

abbrev pub invariant-loop-bit : goal.invariant-loop-bit
invariant-loop-bit l = (j : ℕ) → l.from ≤ j → j < l.bit → ¬ IsBitSet l.byte j
