use Rattle.std.proofs.Common.{◌≡◌, None, replicate}
use Rattle.rm_session.proofs.instances.all_lost.Given as goal

abbrev pub invariant-loop : goal.invariant-loop
invariant-loop g l = l.lost.items ≡ replicate l.counter None
