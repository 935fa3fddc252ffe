use Rattle.std.proofs.Common.{◌+◌, ◌-◌, length}
use Rattle.rm_channel.proofs.copying.+fn-run-join+arg2+fn-run-join+arg3+run.Given as goal

abbrev pub decreases-join+arg2 : goal.decreases-join+arg2
decreases-join+arg2 g l = l.left.to - l.left.from + length l.front.now

abbrev pub decreases-join+arg3 : goal.decreases-join+arg3
decreases-join+arg3 g l = l.right.to - l.right.from + length l.back.now

abbrev pub decreases-run : goal.decreases-run
decreases-run g l = l.share.to - l.share.from + length l.writers.now
