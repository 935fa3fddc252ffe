use Rattle.std.specs.Vec.Iter.{into_iter_items}
use Rattle.rm_machine.proofs.Homes.{IsHoming}
use Rattle.rm_machine.proofs.running.at_home.Given as goal

abbrev pub invariant-loop-file : goal.invariant-loop-file
invariant-loop-file l = IsHoming l.count (into_iter_items l.initial.file-iterator) l.place.items (into_iter_items l.file-iterator)
