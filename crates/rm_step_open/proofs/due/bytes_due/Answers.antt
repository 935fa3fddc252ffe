use Rattle.std.proofs.Common.{◌≡◌, ◌-◌, ap, arith}
use Rattle.rm_machine.specs.Archive.{bytes_from}
use Rattle.rm_step_open.proofs.Turns.{bytes-turn}
use Rattle.rm_step_open.proofs.due.bytes_due.Goals as goal

pub loop-thread-preserved : goal.loop-thread-preserved
loop-thread-preserved c =
    let turn = bytes-turn c.args.state.now c.loop-thread.thread c.loop-thread.bytes _ c.loop-thread.auto.thread c.loop-thread-test.true c.loop-thread.invariant.sum in
    record { sum = omega (arith, turn, c.bytes_of-bytes.ensures.value); few = omega (arith, c.bytes_of-bytes.ensures.most, c.loop-thread.invariant.few) }

pub returns : goal.returns
returns c =
    let end : 5 - c.loop-thread.thread ≡ 0 = omega (arith, c.loop-thread-test.false) in
    omega (arith, c.loop-thread.invariant.sum, ap (bytes_from c.args.state.now c.loop-thread.thread) end)
