use Rattle.std.proofs.Common.{arith}
use Rattle.rm_piece.proofs.Fitting.{few_rows}
use Rattle.rm_dup.proofs.recording.entry_of.Goals as goal

pub overflow_cast-result : goal.overflow_cast-result
overflow_cast-result c = let few = few_rows c.args.piece.now c.requires in search (arith, few)
