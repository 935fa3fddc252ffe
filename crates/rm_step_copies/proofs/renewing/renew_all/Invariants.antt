use Rattle.std.proofs.Common.{drop}
use Rattle.rm_step_copies.proofs.Ways.{IsUnderWay}
use Rattle.rm_step_copies.proofs.renewing.renew_all.Given as goal

abbrev pub invariant-loop-copy : goal.invariant-loop-copy
invariant-loop-copy l = IsUnderWay l.fn.state l.tag l.copies (drop l.copy-index l.copies) l.fn.edits.items l.edits.items l.fn.handed l.handed l.state
