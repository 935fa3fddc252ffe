use Rattle.std.proofs.lemmas.Bool.Decides.{Decides-at}
use Rattle.rm_catalog.proofs.Same.{piece_decides}
use Rattle.rm_control.proofs.differences.is_same_piece.Goals as goal

pub returns : goal.returns
returns c = Decides-at c.eq.result _ c.eq.ensures (piece_decides c.args.a.now c.args.b.now)
