use Rattle.std.proofs.Common.{length}
use Rattle.rm_repair.proofs.mending.+fn-mend_beside-join+arg2+mend_beside.Given as goal

abbrev pub decreases-join+arg2 : goal.decreases-join+arg2
decreases-join+arg2 g l = length l.front.now

abbrev pub decreases-mend_beside : goal.decreases-mend_beside
decreases-mend_beside g l = length l.writers.now
