use Rattle.std.proofs.Common.{◌≡◌, None, replicate}
use Rattle.rm_machine.proofs.running.empty_places.Given as goal

abbrev pub invariant-loop : goal.invariant-loop
invariant-loop l = l.place.items ≡ replicate l.counter None
