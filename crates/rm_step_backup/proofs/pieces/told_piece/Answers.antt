use Rattle.std.proofs.Common.{arith}
use Rattle.rm_piece.proofs.Fitting.{few_rows}
use Rattle.rm_step_backup.proofs.pieces.told_piece.Goals as goal

pub overflow_cast-result : goal.overflow_cast-result
overflow_cast-result c = let few = few_rows c.args.piece.now c.requires.valid in search (arith, few)
