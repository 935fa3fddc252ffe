use Rattle.std.proofs.Common.{sym, subst}
use Rattle.rm_blocks.{specs.File.{IsInOrder}, proofs.Rows.{in_order-created}}
use Rattle.rm_blocks.proofs.file.DataFile.empty.Goals as goal

pub invariant_of-result : goal.invariant_of-result
invariant_of-result c = subst IsInOrder (sym c.loop-block.invariant) (in_order-created c.args.creation c.loop-block.block)
