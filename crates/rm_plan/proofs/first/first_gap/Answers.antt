use Rattle.std.proofs.Common.{Option, IfNone, arith, subst}
use Rattle.rm_evidence.specs.{Known.{known_of}, Database.{world_of}}
use Rattle.rm_plan.{specs.{FirstGap.{FileDetermined}, declared.plan.Gap.{Gap}}, proofs.Firsts.{all_files, files_more}}
use Rattle.rm_plan.proofs.first.first_gap.Goals as goal

pub loop-file-preserved : goal.loop-file-preserved
loop-file-preserved c = files_more (world_of c.args.catalog.now) (known_of c.args.evidence.now) c.args.i c.args.s c.loop-file.file c.loop-file.invariant
    (subst (λ (gap : Option Gap). IfNone gap (FileDetermined (world_of c.args.catalog.now) (known_of c.args.evidence.now) c.args.i c.args.s c.loop-file.file)) c.in_default.is c.in_ok-gap.ensures.none)

pub returns-clause-none : goal.returns-clause-none
returns-clause-none c = all_files c.args.catalog.now (known_of c.args.evidence.now) c.args.i c.args.s c.loop-file.file (omega (arith, c.loop-file-test.false)) c.records.ensures.catalog c.loop-file.invariant
