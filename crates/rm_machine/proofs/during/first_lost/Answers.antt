use Rattle.std.proofs.Common.{◌∙◌, ap, not, sym}
use Rattle.rm_machine.proofs.Refused.{file-some, lost-more, read-there}
use Rattle.rm_machine.proofs.during.first_lost.Goals as goal

pub placed-requires : goal.placed-requires
placed-requires c = file-some c.args.state.now c.args.writes.now c.loop-write.write-index _ c.loop-write-test.true c.requires.sound c.requires.there

pub loop-write-preserved : goal.loop-write-preserved
loop-write-preserved c =
    sym (lost-more c.args.state.now c.args.writes.now c.loop-write.write-index _ c.loop-write-test.true (read-there c.placed.result _ c.placed.ensures (c.is_none.ensures ∙ ap not c.if-is_none.false))) ∙ c.loop-write.invariant
