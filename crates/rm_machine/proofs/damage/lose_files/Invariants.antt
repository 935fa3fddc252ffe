use Rattle.std.proofs.Common.{◌≡◌, ◌+◌, ◌++◌, drop, take}
use Rattle.rm_machine.specs.Damage.{undamaged}
use Rattle.rm_machine.proofs.damage.lose_files.Given as goal

abbrev pub invariant-loop-index : goal.invariant-loop-index
invariant-loop-index l = take l.index l.place.items ++ undamaged l.damaged (1 + l.index) (drop l.index l.place.items) ≡ undamaged l.damaged 1 l.fn.place.items
