use Rattle.std.{specs.Prelude.{List, Result}, proofs.Common.{◌≡◌, arith, length, rules, subst}}
use Rattle.std.proofs.lemmas.Option.{get_or_from_slice_get, slice_get_within}
use Rattle.rm_evidence.specs.{Known.{known_of}, Database.{world_of}}
use Rattle.rm_plan.specs.declared.plan.PlanFault.{PlanFault}
use Rattle.rm_apply.{specs.{Applying.{TriedAt}, declared.plans.Plan.{Plan}}, proofs.Planning.{tried-in-order}}
use Rattle.rm_apply.proofs.plans.plan_each.Goals as goal

pub returns : goal.returns
returns g c =
    let w = world_of c.args.catalog.now in
    let e = known_of c.args.evidence.now in
    let part = c.args.part.now in
    let made : List (Result Plan PlanFault) = c.in_ok-made.made.items in
    let many : length made ≡ length part = search rules in
    tried-in-order w e c.args.i c.args.s part made many
    (λ k r is. subst (λ (x : Result Plan PlanFault). TriedAt w e c.args.i c.args.s part k x) (get_or_from_slice_get made k r r is) (c.in_ok-made.ensures.each k r (omega (arith, many, slice_get_within made k r is))).1.met)
