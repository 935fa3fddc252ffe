use Rattle.rm_step_copies.proofs.Ways.{next-put, way-on, way-start}
use Rattle.rm_step_copies.proofs.renewing.renew_all.Goals as goal

pub loop-copy-init : goal.loop-copy-init
loop-copy-init c = way-start c.args.state.now c.args.tag.now c.args.copies.now c.args.edits.now.items c.args.handed.now c.requires.sound c.requires.fit c.requires.accepted

pub renew-requires : goal.renew-requires
renew-requires c =
    next-put c.args.state.now c.loop-copy.state c.args.tag.now c.args.copies.now c.loop-copy.copy-index c.copy-item.result c.loop-copy-test.true c.copy-item.is c.args.edits.now.items c.loop-copy.edits.items c.args.handed.now c.loop-copy.handed c.loop-copy.invariant

pub loop-copy-preserved : goal.loop-copy-preserved
loop-copy-preserved c =
    let done = c.in_ok-renew.ensures in
    way-on c.args.state.now c.loop-copy.state c.args.tag.now c.args.copies.now c.loop-copy.copy-index c.copy-item.result c.loop-copy-test.true c.copy-item.is c.args.edits.now.items c.loop-copy.edits.items c.args.handed.now c.loop-copy.handed c.loop-copy.invariant
    c.renew.new.state c.renew.new.edits.items c.renew.new.handed done.after done.edits done.lines done.objects done.removes
