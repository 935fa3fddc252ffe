use Rattle.std.proofs.Common.{◌∙◌, ℕ, List, All, ap, map, subst, sym}
use Rattle.rm_base.specs.declared.block.{BlockId.{BlockId}, Part.{Part}}
use Rattle.rm_evidence.specs.{Known.{known_of}, Database.{world_of}}
use Rattle.rm_history.specs.FirstGap.{IsTarget}
use Rattle.rm_plan.{specs.{Blocks.{AreToldRows}, Chosen.{IsFaultOf, id_of, row_of}}, proofs.Faults.{handed_on}}
use Rattle.rm_repair.proofs.Told.{run-is, run-targets}
use Rattle.rm_repair.proofs.jobs.add_run.Goals as goal

pub plan_blocks-requires-clause-there : goal.plan_blocks-requires-clause-there
plan_blocks-requires-clause-there c =
    let w = world_of c.args.catalog.now in
    subst (λ (bs : List ℕ). All (λ b. IsTarget w c.args.i c.args.s c.args.file b) bs) (sym (c.as_slice.ensures.value ∙ c.in_ok-numbers.ensures))
    (run-targets w c.args.i c.args.s c.args.file c.args.run.now c.requires.there c.requires.of)

pub returns-in_err-parts-clause-gap : goal.returns-in_err-parts-clause-gap
returns-in_err-parts-clause-gap c =
    let w = world_of c.args.catalog.now in
    let e = known_of c.args.evidence.now in
    let fault = c.in_err-parts.field-0.0 in
    let same = ap (map (id_of c.args.file)) (c.as_slice.ensures.value ∙ c.in_ok-numbers.ensures) ∙ run-is c.args.file c.args.run.now c.requires.of in
    handed_on c.from_residual-in_err-parts.result fault c.from_residual-in_err-parts.ensures.1 (IsFaultOf w e c.args.i c.args.s c.args.run.now)
    (subst (λ (xs : List BlockId). IsFaultOf w e c.args.i c.args.s xs fault) same c.in_err-parts.ensures.gap)

pub returns-clause-adds : goal.returns-clause-adds
returns-clause-adds c =
    let w = world_of c.args.catalog.now in
    let e = known_of c.args.evidence.now in
    let same = ap (map (id_of c.args.file)) (c.as_slice.ensures.value ∙ c.in_ok-numbers.ensures) ∙ run-is c.args.file c.args.run.now c.requires.of in (
      c.as_slice-2.result.now,
      c.in_ok-add_jobs.ensures,
      subst (λ (parts : List Part). AreToldRows w e c.args.i c.args.s c.args.run.now (map row_of parts)) (sym c.as_slice-2.ensures)
          (subst (λ (xs : List BlockId). AreToldRows w e c.args.i c.args.s xs (map row_of c.in_ok-parts.parts)) same c.in_ok-parts.ensures.parts),
    )
