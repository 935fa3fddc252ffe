use Rattle.std.{specs.Prelude.{sum_by}, proofs.Common.{◌≡◌, ◌≤◌, ◌*◌, take}}
use Rattle.rm_history.specs.World.{blocks_of}
use Rattle.rm_machine.specs.State.{world}
use Rattle.rm_machine.proofs.room.blocks_in.Given as goal

abbrev pub invariant-loop-part : goal.invariant-loop-part
invariant-loop-part l = record {
  value : l.blocks ≡ sum_by (λ p. blocks_of (world l.state) p.file) (take l.part-index l.parts);
  most : l.blocks ≤ 65536 * l.part-index;
}
