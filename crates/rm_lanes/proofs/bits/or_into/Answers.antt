use Rattle.std.proofs.Common.{arith}
use Rattle.rm_lanes.proofs.Ored.{lanes_ored, all_ored}
use Rattle.rm_lanes.proofs.bits.or_into.Goals as goal

pub lanes-preserved : goal.lanes-preserved
lanes-preserved c = lanes_ored 32 c.lanes.i c.args.to.now c.args.from.now c.lanes.to c.requires (omega (arith, c.lanes-test.true, c.lanes.invariant.within, c.lanes.invariant.long)) c.lanes.invariant

pub returns : goal.returns
returns c = all_ored c.tail.i c.args.to.now c.args.from.now c.tail.to c.requires (omega (arith, c.tail-test.false, c.tail.invariant.long)) c.tail.invariant
