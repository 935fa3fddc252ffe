use Rattle.rm_piece.proofs.SetFitting.{length-set, length-set_most}
use Rattle.rm_piece.proofs.set_laws.a_set_has_a_length.Goals as goal

pub returns : goal.returns
returns c = record { is = length-set; most = length-set_most }
