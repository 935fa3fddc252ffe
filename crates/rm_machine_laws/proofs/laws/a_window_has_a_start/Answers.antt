use Rattle.rm_machine_laws.proofs.WindowStart.{has-start, starts-within}
use Rattle.rm_machine_laws.proofs.laws.a_window_has_a_start.Goals as goal

pub returns-clause-found : goal.returns-clause-found
returns-clause-found c = has-start

pub returns-clause-within : goal.returns-clause-within
returns-clause-within c = starts-within
