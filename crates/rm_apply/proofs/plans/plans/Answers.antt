use Rattle.std.{specs.Slice.Iter.{chunks_rest}, proofs.Common.{◌≡◌, ◌∙◌, List, ap, length, rules, subst}}
use Rattle.rm_evidence.specs.{Known.{known_of}, Database.{world_of}}
use Rattle.rm_apply.specs.declared.targets.TargetFile.{TargetFile}
use Rattle.rm_apply.proofs.Planning.{IsPartWay, at-end, at-start, part-each, part-first, part-next}
use Rattle.rm_apply.proofs.plans.plans.Goals as goal

pub loop-part-init : goal.loop-part-init
loop-part-init g c =
    at-start (world_of c.args.catalog.now) (known_of c.args.evidence.now) c.args.i c.args.s c.args.targets.now (chunks_rest c.into_iter-part-iterator.result) c.new-plans.result c.new-plans.ensures
    (ap chunks_rest c.into_iter-part-iterator.ensures.into_iter_gives ∙ c.chunks-part-items.ensures.rest) c.requires.each

pub add_plans-requires-clause-each : goal.add_plans-requires-clause-each
add_plans-requires-clause-each g c κs within =
    let w = world_of c.args.catalog.now in
    let e = known_of c.args.evidence.now in
    let rest = chunks_rest c.next.new.self in
    part-each w e c.args.i c.args.s c.args.targets.now c.in-Some.part.now rest c.loop-part.plans
    (subst (λ (ts : List TargetFile). IsPartWay w e c.args.i c.args.s c.args.targets.now ts c.loop-part.plans) c.in-Some.ensures.steps.1.0 c.loop-part.invariant)

pub add_plans-requires-clause-first : goal.add_plans-requires-clause-first
add_plans-requires-clause-first g c κs within =
    let w = world_of c.args.catalog.now in
    let e = known_of c.args.evidence.now in
    let rest = chunks_rest c.next.new.self in
    part-first w e c.args.i c.args.s c.args.targets.now c.in-Some.part.now rest c.loop-part.plans
    (subst (λ (ts : List TargetFile). IsPartWay w e c.args.i c.args.s c.args.targets.now ts c.loop-part.plans) c.in-Some.ensures.steps.1.0 c.loop-part.invariant)
    c.requires.numbers

pub loop-part-preserved : goal.loop-part-preserved
loop-part-preserved g c =
    let w = world_of c.args.catalog.now in
    let e = known_of c.args.evidence.now in
    let rest = chunks_rest c.next.new.self in
    let adds = c.in_ok-add_plans.ensures in
    part-next w e c.args.i c.args.s c.args.targets.now c.in-Some.part.now rest c.loop-part.plans
    (subst (λ (ts : List TargetFile). IsPartWay w e c.args.i c.args.s c.args.targets.now ts c.loop-part.plans) c.in-Some.ensures.steps.1.0 c.loop-part.invariant)
    c.add_plans.new.plans adds.numbers adds.planned

pub returns-clause-plans : goal.returns-clause-plans
returns-clause-plans g c =
    let left = chunks_rest c.loop-part.part-iterator in
    let none : length left ≡ 0 = search rules in
    at-end (world_of c.args.catalog.now) (known_of c.args.evidence.now) c.args.i c.args.s c.args.targets.now left c.loop-part.plans c.loop-part.invariant none
