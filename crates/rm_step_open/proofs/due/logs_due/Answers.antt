use Rattle.std.proofs.Common.{◌≡◌, ◌-◌, ap, arith}
use Rattle.rm_machine.specs.Archive.{due_from}
use Rattle.rm_step_open.proofs.Turns.{due-turn}
use Rattle.rm_step_open.proofs.due.logs_due.Goals as goal

pub loop-thread-preserved : goal.loop-thread-preserved
loop-thread-preserved c =
    let turn = due-turn c.args.state.now c.loop-thread.thread c.loop-thread.due _ c.loop-thread.auto.thread c.loop-thread-test.true c.loop-thread.invariant.sum in
    record { sum = omega (arith, turn, c.count_of-due.ensures.value); few = omega (arith, c.count_of-due.ensures.most, c.loop-thread.invariant.few) }

pub returns-clause-value : goal.returns-clause-value
returns-clause-value c =
    let end : 5 - c.loop-thread.thread ≡ 0 = omega (arith, c.loop-thread-test.false) in
    omega (arith, c.loop-thread.invariant.sum, ap (due_from c.args.state.now c.loop-thread.thread) end)
