use Rattle.std.proofs.Common.{◌≡◌, ◌++◌, drop, take}
use Rattle.rm_machine.specs.Damage.{with_block}
use Rattle.rm_machine.proofs.damage.place_of.Given as goal

abbrev pub invariant-loop-index : goal.invariant-loop-index
invariant-loop-index l = take l.index l.list ++ with_block l.block (drop l.index l.list) ≡ with_block l.block l.list
