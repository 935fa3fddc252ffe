use Rattle.std.{specs.Prelude.{sum_by}, proofs.Common.{◌≡◌, ◌≤◌, ◌*◌, ◌^◌, map, take}}
use Rattle.rm_machine.specs.{Marks.{set_bytes}, State.{world}}
use Rattle.rm_machine.proofs.room.set_bytes.Given as goal

abbrev pub invariant-loop-set : goal.invariant-loop-set
invariant-loop-set l = record {
  value : l.bytes ≡ sum_by (λ e. set_bytes (world l.state) (map (λ p. p.file) e.parts)) (take l.set-index l.sets);
  most : l.bytes ≤ 2 ^ 29 * l.set-index;
}
