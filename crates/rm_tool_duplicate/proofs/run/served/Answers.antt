use Rattle.rm_lang_words.specs.Reading.{duplicate_of as said_of}
use Rattle.rm_tool_duplicate.proofs.Ending.{finishes, halts, leaves-from, opened-source, opened-stays, prepared-from, untold-lines}
use Rattle.rm_tool_duplicate.proofs.run.served.Goals as goal
use Rattle.rm_shelf.proofs.Staying.{all-then, others-after, others-of}

pub prepare-requires-clause-source : goal.prepare-requires-clause-source
prepare-requires-clause-source g c κs within =
    let was = c.open_source-opened.ensures in
    opened-source (said_of c.args.said.now) _ _ c.in-Ok.is was.same was.shelf was.opens was.shows was.valid

pub returns-in-Err-prepare-clause-ended : goal.returns-in-Err-prepare-clause-ended
returns-in-Err-prepare-clause-ended g c =
    let was = c.open_source-opened.ensures in
    let opened = opened-stays (said_of c.args.said.now) _ _ c.in-Ok.is was.same was.shelf (g.E.Store.held c.args.to.now) was.silent in
    leaves-from _ _ _ _ opened c.in-Err-prepare.ensures.ended

pub returns-in-Err-prepare-clause-others : goal.returns-in-Err-prepare-clause-others
returns-in-Err-prepare-clause-others g c = others-of c.args.said.now.number _ _ (all-then _ _ _ c.open_source-opened.ensures.shelf c.prepare.ensures.shelf)

pub returns-in-Err-carried-clause-ended : goal.returns-in-Err-carried-clause-ended
returns-in-Err-carried-clause-ended g c =
    let was = c.open_source-opened.ensures in
    let opened = opened-stays (said_of c.args.said.now) _ _ c.in-Ok.is was.same was.shelf (g.E.Store.held c.args.to.now) was.silent in
    let is = c.in-Ok-prepare.ensures in
    let p = prepared-from _ _ opened is.ready c.prepare.ensures.from c.prepare.ensures.to c.prepare.ensures.shelf is.silent in
    halts p _ c.in-Err-carried.is c.carry-carried.ensures.stopped c.from-in-Err-carried.ensures

pub returns-in-Err-carried-clause-others : goal.returns-in-Err-carried-clause-others
returns-in-Err-carried-clause-others g c =
    others-after c.args.said.now.number _ _ _ _ c.open_source-opened.ensures.shelf c.prepare.ensures.shelf c.carry-carried.ensures.others

pub returns-in-Ok-write_all-clause-finishes : goal.returns-in-Ok-write_all-clause-finishes
returns-in-Ok-write_all-clause-finishes g c =
    let was = c.open_source-opened.ensures in
    let opened = opened-stays (said_of c.args.said.now) _ _ c.in-Ok.is was.same was.shelf (g.E.Store.held c.args.to.now) was.silent in
    let is = c.in-Ok-prepare.ensures in
    let p = prepared-from _ _ opened is.ready c.prepare.ensures.from c.prepare.ensures.to c.prepare.ensures.shelf is.silent in
    finishes p _ c.in_default.is c.carry-carried.ensures.carried c.as_slice.ensures c.in-Ok-write_all.ensures.ok

pub returns-in-Ok-write_all-clause-others : goal.returns-in-Ok-write_all-clause-others
returns-in-Ok-write_all-clause-others g c =
    others-after c.args.said.now.number _ _ _ _ c.open_source-opened.ensures.shelf c.prepare.ensures.shelf c.carry-carried.ensures.others

pub returns-clause-ended : goal.returns-clause-ended
returns-clause-ended g c =
    let was = c.open_source-opened.ensures in
    let opened = opened-stays (said_of c.args.said.now) _ _ c.in-Ok.is was.same was.shelf (g.E.Store.held c.args.to.now) was.silent in
    let is = c.in-Ok-prepare.ensures in
    let p = prepared-from _ _ opened is.ready c.prepare.ensures.from c.prepare.ensures.to c.prepare.ensures.shelf is.silent in
    untold-lines p _ c.in_default.is c.carry-carried.ensures.carried c.as_slice.ensures c.in-Err-write_all.ensures.prefix

pub returns-clause-others : goal.returns-clause-others
returns-clause-others g c =
    others-after c.args.said.now.number _ _ _ _ c.open_source-opened.ensures.shelf c.prepare.ensures.shelf c.carry-carried.ensures.others
