use Rattle.rm_machine_laws.proofs.ThreadSwitched.{switched}
use Rattle.rm_machine_laws.proofs.laws.a_thread_is_switched_from_its_scn_on.Goals as goal

pub returns-clause-from : goal.returns-clause-from
returns-clause-from c s held thread on lines effect t sound comes = (switched s held thread on lines effect t sound comes).from_now

pub returns-clause-elsewhere : goal.returns-clause-elsewhere
returns-clause-elsewhere c s held thread on lines effect t sound comes = (switched s held thread on lines effect t sound comes).elsewhere
