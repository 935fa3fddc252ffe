use Rattle.rm_history.proofs.Facts.{told-is-true}
use Rattle.rm_history.proofs.known.told_is_true.Goals as goal

pub returns : goal.returns
returns c w e i s f b v x target told = told-is-true w e i s f b v x target told
