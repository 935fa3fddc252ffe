use Rattle.std.{specs.Vec.Iter.{into_iter_items, into_iter_len}, proofs.Common.{◌≡◌, ◌++◌, length, map}}
use Rattle.rm_evidence.specs.{Known.{known_of}, Database.{world_of}}
use Rattle.rm_apply.proofs.Planning.{AreLeft}
use Rattle.rm_apply.proofs.plans.add_plans.Given as goal

abbrev pub invariant-loop-plan : goal.invariant-loop-plan
invariant-loop-plan g l = record {
  left : AreLeft (world_of l.catalog) (known_of l.evidence) l.i l.s (map (λ x. x.number) l.fn.plans ++ map (λ x. x.number) l.part) l.plans (into_iter_items l.plan-iterator);
  many : into_iter_len l.plan-iterator ≡ length (into_iter_items l.plan-iterator);
}
