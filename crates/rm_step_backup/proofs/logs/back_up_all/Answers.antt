use Rattle.rm_step_backup.proofs.LogBackups.{next-fits, next-valid, way-on, way-start}
use Rattle.rm_step_backup.proofs.logs.back_up_all.Goals as goal

pub loop-log-init : goal.loop-log-init
loop-log-init c = way-start c.args.state.now c.args.logs.now 65536 c.args.edits.now.items c.args.handed.now c.requires.sound c.requires.recorded c.requires.accepted

pub back_up-requires-clause-valid : goal.back_up-requires-clause-valid
back_up-requires-clause-valid c =
    next-valid c.args.state.now c.loop-log.state c.args.logs.now c.loop-log.log-index c.loop-log-item.result c.loop-log-test.true c.loop-log-item.is c.args.edits.now.items c.loop-log.edits.items c.args.handed.now c.loop-log.handed c.loop-log.invariant

pub back_up-requires-clause-fits : goal.back_up-requires-clause-fits
back_up-requires-clause-fits c =
    next-fits c.args.state.now c.loop-log.state c.args.logs.now c.loop-log.log-index c.loop-log-item.result c.loop-log-test.true c.loop-log-item.is c.args.edits.now.items c.loop-log.edits.items c.args.handed.now c.loop-log.handed c.loop-log.invariant

pub loop-log-preserved : goal.loop-log-preserved
loop-log-preserved c =
    let done = c.in_ok-back_up.ensures in
    way-on c.args.state.now c.loop-log.state c.args.logs.now c.loop-log.log-index c.loop-log-item.result c.loop-log-test.true c.loop-log-item.is c.args.edits.now.items c.loop-log.edits.items c.args.handed.now c.loop-log.handed c.loop-log.invariant
    c.back_up.new.state c.back_up.new.edits.items c.back_up.new.handed done.after done.edits done.lines done.objects done.removes
