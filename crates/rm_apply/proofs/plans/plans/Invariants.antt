use Rattle.std.specs.Slice.Iter.{chunks_rest}
use Rattle.rm_evidence.specs.{Known.{known_of}, Database.{world_of}}
use Rattle.rm_apply.proofs.Planning.{IsPartWay}
use Rattle.rm_apply.proofs.plans.plans.Given as goal

abbrev pub invariant-loop-part : goal.invariant-loop-part
invariant-loop-part g l = IsPartWay (world_of l.catalog) (known_of l.evidence) l.i l.s l.targets (chunks_rest l.part-iterator) l.plans
