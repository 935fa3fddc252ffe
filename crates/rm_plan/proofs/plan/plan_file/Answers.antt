use Rattle.std.proofs.Common.{◌<◌, ◌+◌, ◌∙◌, List, arith, subst, sym}
use Rattle.rm_base.specs.declared.block.Part.{Part}
use Rattle.rm_evidence.specs.{Known.{known_of}, Database.{world_of}}
use Rattle.rm_plan.{specs.Plan.{AreParts, IsFileFault}, proofs.{Faults.{file_fault, handed_on}, Parts.{part_more, within_file}}}
use Rattle.rm_plan.proofs.plan.plan_file.Goals as goal

pub returns-in_err-version-clause-gap : goal.returns-in_err-version-clause-gap
returns-in_err-version-clause-gap c =
    let w = world_of c.args.catalog.now in
    let e = known_of c.args.evidence.now in
    let below : c.loop-block.block < c.in-Some.found.blocks = omega (arith, c.loop-block-test.true) in
    let within = within_file w c.args.file c.in-Some.found (sym c.datafile.ensures ∙ c.in-Some.is) c.loop-block.block below in
    handed_on c.from_residual-in_err-version.result c.in_err-version.field-0.0 c.from_residual-in_err-version.ensures.1 (IsFileFault w e c.args.i c.args.s c.args.file)
    (file_fault w e c.args.i c.args.s c.args.file c.loop-block.block c.loop-block.parts c.in_err-version.field-0.0 c.loop-block.invariant.parts within c.in_err-version.ensures.gap)

pub loop-block-preserved : goal.loop-block-preserved
loop-block-preserved c =
    let w = world_of c.args.catalog.now in
    let e = known_of c.args.evidence.now in
    let told = c.in_ok-version.field-0 in
    let more = part_more w e c.args.i c.args.s c.args.file c.loop-block.block told.version told.content c.loop-block.parts c.loop-block.invariant.parts c.in_ok-version.ensures.told in
    record { parts = subst (λ (parts : List Part). AreParts w e c.args.i c.args.s c.args.file (c.loop-block.block + 1) parts) (sym c.in_ok-push.ensures.ok) more }
