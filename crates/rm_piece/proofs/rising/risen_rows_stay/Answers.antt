use Rattle.rm_piece.proofs.Risen.{risen-same, states-same}
use Rattle.rm_piece.proofs.rising.risen_rows_stay.Goals as goal

pub returns : goal.returns
returns c = record { since = risen-same; states = states-same }
