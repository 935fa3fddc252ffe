use Rattle.std.proofs.Common.{◌+◌, arith}
use Rattle.rm_test_libraries.proofs.Tracked.{starts-later, starts-marked, starts-switched}
use Rattle.rm_test_libraries.proofs.tracking.reads.Goals as goal

pub switch-requires : goal.switch-requires
switch-requires c =
    starts-later c.mark.new.self (2 + c.args.block) (3 + c.from.result) (omega (arith, c.from.ensures))
    (starts-marked c.args.tracker.now c.mark.new.self c.args.block (2 + c.args.block) c.mark.ensures c.requires)

pub returns-in-Some : goal.returns-in-Some
returns-in-Some c = starts-switched c.mark.new.self c.switch.new.self (3 + c.from.result) (3 + c.args.block) c.in_ok-switch.ensures.ok (omega (arith, c.from.ensures))

pub returns-in-None : goal.returns-in-None
returns-in-None c = starts-switched c.mark.new.self c.switch.new.self (3 + c.from.result) (3 + c.args.block) c.in_ok-switch.ensures.ok (omega (arith, c.from.ensures))
