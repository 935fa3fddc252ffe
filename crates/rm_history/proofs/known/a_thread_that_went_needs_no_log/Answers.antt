use Rattle.rm_history.proofs.Gone.{smaller-agrees, smaller-history, smaller-target, smaller-told}
use Rattle.rm_history.proofs.known.a_thread_that_went_needs_no_log.Goals as goal

pub returns-clause-history : goal.returns-clause-history
returns-clause-history _ = smaller-history

pub returns-clause-agrees : goal.returns-clause-agrees
returns-clause-agrees _ = smaller-agrees

pub returns-clause-target : goal.returns-clause-target
returns-clause-target _ = smaller-target

pub returns-clause-told : goal.returns-clause-told
returns-clause-told _ = smaller-told
