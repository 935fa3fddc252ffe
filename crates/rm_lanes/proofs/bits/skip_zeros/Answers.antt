use Rattle.std.proofs.Common.{arith, inl, inr, rules}
use Rattle.rm_lanes.proofs.{Ored.{below_or_not}, Zeros.{zero_at}}
use Rattle.rm_lanes.proofs.bits.skip_zeros.Goals as goal

pub lanes-preserved : goal.lanes-preserved
lanes-preserved c = record {
  within = omega (arith, c.lanes-test.true, c.lanes.invariant.within);
  reached = omega (arith, c.lanes.invariant.reached);
  zeros = λ k low high. elim (below_or_not k c.lanes.i) [
    | inl under ↦ c.lanes.invariant.zeros k low under
    | inr over ↦ zero_at 32 c.lanes.i c.args.bytes.now (c.if-is_zero_at.ensures.0 (search rules)) k over high
  ];
}
