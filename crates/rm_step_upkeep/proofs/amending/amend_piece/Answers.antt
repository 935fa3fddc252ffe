use Rattle.std.proofs.Common.{◌∙◌, ap, sym}
use Rattle.rm_step_upkeep.{specs.Amended.{piece_by}, proofs.Fits.{piece-fits}}
use Rattle.rm_step_upkeep.proofs.amending.amend_piece.Goals as goal

pub put_piece-requires : goal.put_piece-requires
put_piece-requires c = record {
  fits = piece-fits c.args.state.now.catalog c.requires.sound.catalog c.args.by c.args.id c.in-Some.piece.now c.piece_by-piece.result (sym c.in-Some.ensures) (c.piece_by-piece.ensures ∙ ap (piece_by c.args.by) c.in_ok-copy.ensures);
}
