use Rattle.std.proofs.{Common.{arith}, lemmas.{Grind.{common_steps}, List.Elements.{All-more}}}
use Rattle.rm_catalog_bytes.specs.Fits.{SetPartFits}
use Rattle.rm_catalog_bytes.proofs.sets.push_set_parts.Goals as goal

pub loop-part-preserved : goal.loop-part-preserved
loop-part-preserved c = record {
  bytes = grind (arith, common_steps);
  fits = All-more SetPartFits c.args.parts.now c.loop-part.part-index _ c.loop-part-test.true c.loop-part.invariant.fits c.in_ok-push_set_part.ensures.fits;
}
