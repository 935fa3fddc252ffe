use Rattle.std.proofs.Common.{rules}
use Rattle.rm_step_upkeep.proofs.Checked.{next-line, next-status}
use Rattle.rm_step_upkeep.proofs.crosschecking.set_all.Goals as goal

pub loop-id-preserved : goal.loop-id-preserved
loop-id-preserved c =
    let xs = c.args.statuses.now in
    let k = c.loop-id.id-index in
    record {
      lines = next-line xs k _ c.loop-id-test.true c.loop-id.lines c.push.new.self c.in_ok-push.ensures.ok c.loop-id.invariant.lines;
      value = next-status xs k _ c.loop-id-test.true c.loop-id.state c.amend.new.state _ c.in_ok-amend.ensures.value c.loop-id.invariant.value;
      edits = search rules;
      sound = c.in_ok-amend.ensures.sound;
    }
