use Rattle.std.proofs.Common.{◌≡◌, ◌∙◌, ◌-◌, sym, ap, true, false, arith}
use Rattle.rm_machine.specs.Archive.{is_last_sequence}
use Rattle.rm_step_open.proofs.Turns.{last-turn}
use Rattle.rm_step_open.proofs.due.is_last_sequence.Goals as goal

pub returns-then-lacks_sequence : goal.returns-then-lacks_sequence
returns-then-lacks_sequence c =
    last-turn c.args.state.now c.loop-thread.thread _ true c.loop-thread.auto.thread c.loop-thread-test.true (sym c.lacks_sequence.ensures ∙ c.if-lacks_sequence.true) c.loop-thread.invariant

pub loop-thread-preserved : goal.loop-thread-preserved
loop-thread-preserved c =
    last-turn c.args.state.now c.loop-thread.thread _ false c.loop-thread.auto.thread c.loop-thread-test.true (sym c.lacks_sequence.ensures ∙ c.if-lacks_sequence.false) c.loop-thread.invariant

pub returns : goal.returns
returns c =
    let end : 5 - c.loop-thread.thread ≡ 0 = omega (arith, c.loop-thread-test.false) in
    sym (ap (is_last_sequence c.args.state.now c.loop-thread.thread) end) ∙ c.loop-thread.invariant
