use Rattle.std.proofs.Common.{◌∙◌, sym}
use Rattle.rm_machine.proofs.Refused.{logs-lack, logs-more}
use Rattle.rm_machine.proofs.during.lacks_logs.Goals as goal

pub loop-index-preserved : goal.loop-index-preserved
loop-index-preserved c =
    sym (logs-more c.args.state.now c.args.writes.now c.loop-index.index 4 c.loop-index-test.true (sym c.lacks_log.ensures ∙ c.if-lacks_log.false)) ∙ c.loop-index.invariant

pub returns-then-lacks_log : goal.returns-then-lacks_log
returns-then-lacks_log c =
    sym (logs-lack c.args.state.now c.args.writes.now c.loop-index.index 4 c.loop-index-test.true (sym c.lacks_log.ensures ∙ c.if-lacks_log.true)) ∙ c.loop-index.invariant
