use Rattle.rm_history.proofs.Facts.{no-gap}
use Rattle.rm_history.proofs.known.determined_has_no_gap.Goals as goal

pub returns : goal.returns
returns c w e i s f b m g told gap = no-gap w e i s f b m g told gap
