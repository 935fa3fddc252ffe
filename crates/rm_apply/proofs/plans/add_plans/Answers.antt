use Rattle.std.specs.{Prelude.{Result}, Vec.Iter.{into_iter_items}}
use Rattle.std.proofs.Common.{◌≡◌, ◌∙◌, ◌++◌, ◌∷◌, List, ap, arith, length, map, refl, rules, sym, subst}
use Rattle.rm_evidence.specs.{Known.{known_of}, Database.{world_of}}
use Rattle.rm_plan.{specs.declared.plan.PlanFault.{PlanFault}, proofs.Faults.{handed_on}}
use Rattle.rm_apply.{specs.{Applying.{AreTried}, Told.{IsFaultOfAll}, declared.plans.Plan.{Plan}}, proofs.Numbers.{number}}
use Rattle.rm_apply.proofs.Planning.{AreLeft, fault-left, next-left, none-left, of_plan}
use Rattle.rm_apply.proofs.plans.add_plans.Goals as goal

pub loop-plan-init : goal.loop-plan-init
loop-plan-init g c =
    let w = world_of c.args.catalog.now in
    let e = known_of c.args.evidence.now in
    let ns = map number c.args.part.now in
    let same : into_iter_items c.into_iter-plan-iterator.result ≡ c.in_ok-made.made.items = search rules in
    record {
      left = record { left = ns; tried = subst (λ (rs : List (Result Plan PlanFault)). AreTried w e c.args.i c.args.s ns rs) (sym same) c.in_ok-made.ensures; numbers = refl; planned = c.requires.planned };
      many = search rules;
    }

pub loop-plan-preserved : goal.loop-plan-preserved
loop-plan-preserved g c =
    let w = world_of c.args.catalog.now in
    let e = known_of c.args.evidence.now in
    let at = c.loop-plan in
    let whole = map of_plan c.args.plans.now ++ map number c.args.part.now in
    let rest : List (Result Plan PlanFault) = into_iter_items c.next.new.self in
    let steps : into_iter_items at.plan-iterator ≡ c.in-Some.plan ∷ rest = c.in-Some.ensures.steps.0 in
    let was = subst (λ (rs : List (Result Plan PlanFault)). AreLeft w e c.args.i c.args.s whole at.plans rs) steps at.invariant.left in
    record {
      left = next-left w e c.args.i c.args.s whole at.plans c.push.new.self c.in-Some.plan rest c.in_ok-plan.field-0 was c.in_ok-plan.was c.in_ok-push.ensures.ok;
      many = omega (arith, c.in-Some.ensures.steps.1, ap length steps, at.invariant.many);
    }

pub returns-in_err-plan-clause-gap : goal.returns-in_err-plan-clause-gap
returns-in_err-plan-clause-gap g c =
    let w = world_of c.args.catalog.now in
    let e = known_of c.args.evidence.now in
    let at = c.loop-plan in
    let whole = map of_plan c.args.plans.now ++ map number c.args.part.now in
    let rest : List (Result Plan PlanFault) = into_iter_items c.next.new.self in
    let steps : into_iter_items at.plan-iterator ≡ c.in-Some.plan ∷ rest = c.in-Some.ensures.steps.0 in
    let was = subst (λ (rs : List (Result Plan PlanFault)). AreLeft w e c.args.i c.args.s whole at.plans rs) steps at.invariant.left in
    let x = c.in_err-plan.field-0.0 in
    handed_on c.from_residual-in_err-plan.result x c.from_residual-in_err-plan.ensures.1 (IsFaultOfAll w e c.args.i c.args.s)
    (fault-left w e c.args.i c.args.s whole at.plans c.in-Some.plan rest x was c.in_err-plan.was c.requires.first)

pub returns-clause-numbers : goal.returns-clause-numbers
returns-clause-numbers g c =
    let at = c.loop-plan in
    none-left (world_of c.args.catalog.now) (known_of c.args.evidence.now) c.args.i c.args.s (map of_plan c.args.plans.now ++ map number c.args.part.now) at.plans (into_iter_items at.plan-iterator) at.invariant.left (sym at.invariant.many ∙ c.in-None.ensures.steps.0)

pub returns-clause-planned : goal.returns-clause-planned
returns-clause-planned g c = c.loop-plan.invariant.left.planned
