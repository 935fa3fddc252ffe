use Rattle.std.proofs.Common.{◌∙◌, sym}
use Rattle.rm_machine.proofs.DamageLoops.{place-here, place-more}
use Rattle.rm_machine.proofs.damage.place_of.Goals as goal

pub loop-index-preserved : goal.loop-index-preserved
loop-index-preserved c =
    place-more c.args.block c.args.list.now _ c.loop-index.index _ c.loop-index-test.true c.loop-index.invariant (sym c.is_before.ensures ∙ c.if-is_before.false) c.requires.absent

pub returns-then-is_before-clause-place : goal.returns-then-is_before-clause-place
returns-then-is_before-clause-place c =
    place-here c.args.block c.args.list.now _ c.loop-index.index _ c.loop-index-test.true c.loop-index.invariant (sym c.is_before.ensures ∙ c.if-is_before.true)
