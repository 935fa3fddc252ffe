use Rattle.std.proofs.Common.{◌≡◌, take}
use Rattle.rm_evidence.proofs.place.copy_logs.Given as goal

abbrev pub invariant-loop-log : goal.invariant-loop-log
invariant-loop-log l = l.copies.items ≡ take l.log-index l.logs
