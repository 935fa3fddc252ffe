use Rattle.std.{specs.{Iterator.Adapters.{zip_first, zip_second}, Slice.Iter.{iter_rest}}, proofs.lemmas.Slice.Zip.{either_empty_from_Zip}}
use Rattle.rm_step_recover.proofs.OriginLines.{all-origins}
use Rattle.rm_step_recover.proofs.lines.push_origins.Goals as goal

pub returns : goal.returns
returns c =
    let left = c.loop-number.number-iterator in
    all-origins (iter_rest (zip_first left)) (iter_rest (zip_second left)) c.loop-number.lines _ (either_empty_from_Zip left c.next.new.self c.next.result c.in-None.is c.next.ensures.steps) c.loop-number.invariant
