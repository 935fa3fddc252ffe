use Rattle.std.specs.Vec.Iter.{into_iter_items}
use Rattle.rm_machine.proofs.Homes.{homing-next}
use Rattle.rm_machine.proofs.running.at_home.Goals as goal

pub loop-file-preserved-in-Some : goal.loop-file-preserved-in-Some
loop-file-preserved-in-Some c =
    homing-next c.args.count _ c.loop-file.place.items c.in-Some.file c.file.result (into_iter_items c.loop-file.file-iterator) (into_iter_items c.next.new.self) c.in-Some.ensures.steps.0 c.file.ensures c.loop-file.invariant

pub loop-file-preserved : goal.loop-file-preserved
loop-file-preserved c =
    homing-next c.args.count _ c.loop-file.place.items c.in-Some.file c.file.result (into_iter_items c.loop-file.file-iterator) (into_iter_items c.next.new.self) c.in-Some.ensures.steps.0 c.file.ensures c.loop-file.invariant
