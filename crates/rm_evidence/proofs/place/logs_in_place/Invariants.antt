use Rattle.std.{specs.Vec.Iter.{into_iter_items}, proofs.Common.{◌≡◌, ◌++◌}}
use Rattle.rm_evidence.specs.Gathered.{placed}
use Rattle.rm_evidence.proofs.place.logs_in_place.Given as goal

abbrev pub invariant-loop-log : goal.invariant-loop-log
invariant-loop-log l = l.placed.items ++ placed (into_iter_items l.log-iterator) ≡ placed (into_iter_items l.initial.log-iterator)
