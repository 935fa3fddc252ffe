use Rattle.std.{specs.{List.{filter_map}, Vec.Iter.{into_iter_items}}, proofs.Common.{◌≡◌, ◌++◌}}
use Rattle.rm_machine.proofs.running.standing_in.Given as goal

abbrev pub invariant-loop-slot : goal.invariant-loop-slot
invariant-loop-slot l = l.files.items ++ filter_map (λ o. o) (into_iter_items l.slot-iterator) ≡ filter_map (λ o. o) (into_iter_items l.initial.slot-iterator)
