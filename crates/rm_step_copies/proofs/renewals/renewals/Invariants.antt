use Rattle.rm_step_copies.proofs.Walked.{AreRenewedBelow}
use Rattle.rm_step_copies.proofs.renewals.renewals.Given as goal

abbrev pub invariant-loop-file : goal.invariant-loop-file
invariant-loop-file l = AreRenewedBelow l.state l.evidence l.tag l.at l.file l.copies.items
