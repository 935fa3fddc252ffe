use Rattle.std.{specs.Vec.Iter.{into_iter_items}, proofs.Common.{ap, arith, length}}
use Rattle.rm_step_recover.proofs.Over.{over-next, places-next}
use Rattle.rm_step_recover.proofs.placing.put_all.Goals as goal

pub loop-file-preserved-in-Some : goal.loop-file-preserved-in-Some
loop-file-preserved-in-Some c =
    let at = c.loop-file in
    let x = c.in-Some.file in
    let rest = into_iter_items c.next.new.self in
    let steps = c.in-Some.ensures.steps.0 in
    let one_less = c.in-Some.ensures.steps.1 in
    let shorter = ap length steps in
    let was = at.invariant.left in
    record {
      over = over-next x rest (into_iter_items at.file-iterator) steps c.file.result c.file.ensures at.place.items _ at.invariant.over;
      each = places-next x rest (into_iter_items at.file-iterator) steps c.file.result c.file.ensures at.place.items at.invariant.each;
      left = omega (arith, one_less, shorter, was);
    }

pub loop-file-preserved : goal.loop-file-preserved
loop-file-preserved c =
    let at = c.loop-file in
    let x = c.in-Some.file in
    let rest = into_iter_items c.next.new.self in
    let steps = c.in-Some.ensures.steps.0 in
    let one_less = c.in-Some.ensures.steps.1 in
    let shorter = ap length steps in
    let was = at.invariant.left in
    record {
      over = over-next x rest (into_iter_items at.file-iterator) steps c.file.result c.file.ensures at.place.items _ at.invariant.over;
      each = places-next x rest (into_iter_items at.file-iterator) steps c.file.result c.file.ensures at.place.items at.invariant.each;
      left = omega (arith, one_less, shorter, was);
    }
