use Rattle.rm_piece.proofs.Picked.{picked_agrees}
use Rattle.rm_piece.proofs.level1s.picked_rows_agree.Goals as goal

pub returns : goal.returns
returns c = picked_agrees
