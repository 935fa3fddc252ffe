use Rattle.rm_history.proofs.Facts.{first-gap-one, first-gap-open}
use Rattle.rm_history.proofs.known.the_first_gap_is_one.Goals as goal

pub returns-clause-one : goal.returns-clause-one
returns-clause-one _ w e i s f b m g c d n k first second = first-gap-one w e i s f b m g c d n k first second

pub returns-clause-only : goal.returns-clause-only
returns-clause-only _ w e i s f b m g first = first-gap-open w e i s f b m g first
