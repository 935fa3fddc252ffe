use Rattle.std.proofs.Common.{length}
use Rattle.rm_step_backup.proofs.making.+fn-make_all-join+arg2+fn-make_all-join+arg3+make_all.Given as goal

abbrev pub decreases-join+arg2 : goal.decreases-join+arg2
decreases-join+arg2 g l = length l.front.items

abbrev pub decreases-join+arg3 : goal.decreases-join+arg3
decreases-join+arg3 g l = length l.back.items

abbrev pub decreases-make_all : goal.decreases-make_all
decreases-make_all g l = length l.reads.items
