use Rattle.std.proofs.Common.{◌+◌, List, map, subst, sym, take}
use Rattle.rm_base.specs.declared.block.Part.{Part}
use Rattle.rm_evidence.specs.{Known.{known_of}, Database.{world_of}}
use Rattle.rm_plan.{specs.Chosen.{AreToldParts, IsFaultOf, id_of}, proofs.{Chosen.{chosen-fault, chosen-more}, Faults.{handed_on}}}
use Rattle.rm_plan.proofs.plan.plan_blocks.Goals as goal

pub returns-in_err-version-clause-gap : goal.returns-in_err-version-clause-gap
returns-in_err-version-clause-gap c =
    let w = world_of c.args.catalog.now in
    let e = known_of c.args.evidence.now in
    let fault = c.in_err-version.field-0.0 in
    handed_on c.from_residual-in_err-version.result fault c.from_residual-in_err-version.ensures.1 (IsFaultOf w e c.args.i c.args.s (map (id_of c.args.file) c.args.blocks.now))
    (chosen-fault w e c.args.i c.args.s c.args.file 0 c.loop-block.block-index c.args.blocks.now c.loop-block.parts fault c.loop-block-test.true c.loop-block.invariant.parts c.in_err-version.ensures.gap)

pub loop-block-preserved : goal.loop-block-preserved
loop-block-preserved c =
    let w = world_of c.args.catalog.now in
    let e = known_of c.args.evidence.now in
    let told = c.in_ok-version.field-0 in
    let more = chosen-more w e c.args.i c.args.s c.args.file 0 c.loop-block.block-index told.version told.content c.args.blocks.now c.loop-block.parts c.loop-block-test.true c.loop-block.invariant.parts c.in_ok-version.ensures.told in
    record { parts = subst (λ (parts : List Part). AreToldParts w e c.args.i c.args.s c.args.file (take (c.loop-block.block-index + 1) c.args.blocks.now) parts) (sym c.in_ok-push.ensures.ok) more }
