use Rattle.std.proofs.{Common.{ap, subst}, lemmas.Option.{get_or_from_slice_get}}
use Rattle.rm_evidence.specs.{Known.{known_of}, Database.{world_of}}
use Rattle.rm_apply.{specs.Applying.{IsTried}, proofs.Numbers.{no_file, number}}
use Rattle.rm_apply.proofs.plans.plan_at.Goals as goal

pub returns : goal.returns
returns c = λ t is.
    let told = c.file_plan.ensures in
    subst (λ n. IsTried (world_of c.args.catalog.now) (known_of c.args.evidence.now) c.args.i c.args.s n c.file_plan.result) (ap number (get_or_from_slice_get c.args.part.now c.args.place t no_file is))
    (record { number = told.number; planned = told.planned; gap = told.gap })

pub file_plan-requires-clause-target : goal.file_plan-requires-clause-target
file_plan-requires-clause-target c = (c.requires.each c.args.place no_file c.requires.inside).1
