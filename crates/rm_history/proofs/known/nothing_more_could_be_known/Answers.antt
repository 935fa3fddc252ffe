use Rattle.rm_history.proofs.Facts.{behind-a-gap}
use Rattle.rm_history.proofs.known.nothing_more_could_be_known.Goals as goal

pub returns : goal.returns
returns c w e i s f b m g world target gap = behind-a-gap w e i s f b m g world target gap
