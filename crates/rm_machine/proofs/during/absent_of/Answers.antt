use Rattle.std.proofs.Common.{◌∙◌, sym}
use Rattle.rm_machine.proofs.Refused.{absent-found, absent-more}
use Rattle.rm_machine.proofs.during.absent_of.Goals as goal

pub loop-write-preserved : goal.loop-write-preserved
loop-write-preserved c =
    sym (absent-more c.args.state.now c.args.writes.now c.loop-write.write-index _ c.loop-write-test.true (sym c.absent_in.ensures ∙ c.in_default.is)) ∙ c.loop-write.invariant

pub returns-in-Some : goal.returns-in-Some
returns-in-Some c =
    sym (absent-found c.args.state.now c.args.writes.now c.loop-write.write-index _ c.loop-write-test.true c.in-Some.absent (sym c.absent_in.ensures ∙ c.in-Some.is)) ∙ c.loop-write.invariant
