use Rattle.rm_piece.proofs.Risen.{risen-member}
use Rattle.rm_piece.proofs.rising.a_piece_of_risen_rows_is_a_member.Goals as goal

pub returns : goal.returns
returns c = risen-member
