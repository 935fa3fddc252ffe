use Rattle.std.proofs.Common.{length}
use Rattle.rm_channel.proofs.applying.+fn-put_apart-join_mut+arg2+fn-put_apart-join_mut+arg3+put_apart.Given as goal

abbrev pub decreases-join_mut+arg2 : goal.decreases-join_mut+arg2
decreases-join_mut+arg2 g l = length l.front.now

abbrev pub decreases-join_mut+arg3 : goal.decreases-join_mut+arg3
decreases-join_mut+arg3 g l = length l.back.now

abbrev pub decreases-put_apart : goal.decreases-put_apart
decreases-put_apart g l = length l.rows.now
