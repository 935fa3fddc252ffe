use Rattle.rm_piece.proofs.Risen.{risen-since, risen-valid, risen-whole}
use Rattle.rm_piece.proofs.rising.risen_rows_begin_at_the_creation.Goals as goal

pub returns : goal.returns
returns c = record { since = risen-since; whole = risen-whole; valid = risen-valid }
