use Rattle.std.proofs.Common.{sym, subst}
use Rattle.rm_backup.{specs.Level1s.{IsReached, start, next}, proofs.Chained.{reached_risen}}
use Rattle.rm_backup.proofs.renewing.merge_all.Goals as goal

pub loop-level1-init : goal.loop-level1-init
loop-level1-init c = record { reached = start; valid = c.requires.copy }

pub loop-level1-preserved : goal.loop-level1-preserved
loop-level1-preserved c =
    let was = c.loop-level1.invariant in
    let step = next c.loop-level1.now c.in-Some.level1.now was.reached c.in-Some.ensures in
    record {
      reached = subst (IsReached c.args.catalog.now c.args.file c.args.tag.now c.args.until c.args.level1s.now c.args.copy) (sym c.take_over-now.ensures.merged) step;
      valid = c.take_over-now.ensures.valid;
    }

pub returns-clause-risen : goal.returns-clause-risen
returns-clause-risen c = reached_risen c.args.catalog.now c.args.file c.args.tag.now c.args.until c.args.level1s.now c.args.copy c.loop-level1.now c.loop-level1.invariant.reached
