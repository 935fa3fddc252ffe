use Rattle.rm_evidence.proofs.Seen.{other-id}
use Rattle.rm_evidence.proofs.naming.id_fits.Goals as goal

pub returns-in_default : goal.returns-in_default
returns-in_default c = other-id c.args.row.now (λ l is. c.in_default.not-Log l is) (λ p is. c.in_default.not-Piece p is) (λ e is. c.in_default.not-Set e is)
