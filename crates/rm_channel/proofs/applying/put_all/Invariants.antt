use Rattle.std.proofs.Common.{◌≡◌, take}
use Rattle.rm_channel.specs.Applied.{with_parts}
use Rattle.rm_channel.proofs.applying.put_all.Given as goal

abbrev pub invariant-loop-part : goal.invariant-loop-part
invariant-loop-part l = l.rows ≡ with_parts (take l.part-index l.parts) l.first l.initial.rows
