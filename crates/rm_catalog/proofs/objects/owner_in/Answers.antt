use Rattle.rm_catalog.proofs.Owners.{stops_none, stops_here, goes_on, ends}
use Rattle.rm_catalog.proofs.objects.owner_in.Goals as goal

pub returns-in-None : goal.returns-in-None
returns-in-None c = stops_none c.args.records.now _ _ _ _ _ _ c.loop-step-test.true c.incarnation.ensures c.in-None.is c.loop-step.invariant

pub returns-then-i-g : goal.returns-then-i-g
returns-then-i-g c = stops_here c.args.records.now _ _ _ _ _ _ _ c.loop-step-test.true c.incarnation.ensures c.in-Some.is c.if-i-g.true c.loop-step.invariant

pub loop-step-preserved : goal.loop-step-preserved
loop-step-preserved c = goes_on c.args.records.now _ _ _ _ _ _ _ c.loop-step-test.true c.incarnation.ensures c.in-Some.is c.if-i-g.false c.loop-step.invariant

pub returns : goal.returns
returns c = ends c.args.records.now _ _ _ _ _ c.loop-step-test.false c.loop-step.invariant
