use Rattle.rm_standby_laws.proofs.Beginning.{increment-begins, increment-held}
use Rattle.rm_standby_laws.proofs.laws.an_increment_is_held.Goals as goal

pub returns-clause-begins : goal.returns-clause-begins
returns-clause-begins c = increment-begins

pub returns-clause-holds : goal.returns-clause-holds
returns-clause-holds c = increment-held
