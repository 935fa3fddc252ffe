use Rattle.std.proofs.Common.{All, take}
use Rattle.rm_catalog.specs.Objects.{IsFree}
use Rattle.rm_catalog.proofs.objects.are_free.Given as goal

abbrev pub invariant-loop-other : goal.invariant-loop-other
invariant-loop-other l = All (IsFree l.records l.kind l.id) (take l.other-index l.others)
