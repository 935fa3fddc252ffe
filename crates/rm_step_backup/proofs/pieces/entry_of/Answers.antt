use Rattle.std.proofs.Common.{arith}
use Rattle.rm_piece.proofs.Fitting.{fits}
use Rattle.rm_step_backup.proofs.pieces.entry_of.Goals as goal

pub overflow_cast-result : goal.overflow_cast-result
overflow_cast-result c = let few = (fits c.args.piece.now c.requires.valid).count in search (arith, few)
