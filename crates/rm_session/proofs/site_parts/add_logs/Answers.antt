use Rattle.std.proofs.Common.{◌≤◌, ◌∙◌, length, sym, arith}
use Rattle.rm_machine.specs.declared.state.State.{State}
use Rattle.rm_session.proofs.Adding.{logs-last, logs-next}
use Rattle.rm_session.proofs.site_parts.add_logs.Goals as goal

pub loop-thread-preserved : goal.loop-thread-preserved
loop-thread-preserved c =
    let s : State = c.args.state.now in
    let was = c.loop-thread.invariant in
    let high : c.loop-thread.thread ≤ length s.instance.logs.threads = omega (arith, c.requires.sound.logs.four, c.loop-thread-test.true) in
    record {
      rest = sym (logs-next s c.loop-thread.thread s.instance.logs.threads c.loop-thread.parts c.add_log.new.parts c.loop-thread.auto.thread high c.in_ok-add_log.ensures.after) ∙ was.rest;
      few = omega (arith, was.few, c.in_ok-add_log.ensures.few);
    }

pub returns : goal.returns
returns c =
    let s : State = c.args.state.now in
    sym (logs-last s c.loop-thread.thread s.instance.logs.threads c.loop-thread.parts (omega (arith, c.requires.sound.logs.four, c.loop-thread-test.false))) ∙ c.loop-thread.invariant.rest
