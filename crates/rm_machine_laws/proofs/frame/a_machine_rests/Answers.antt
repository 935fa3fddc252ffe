use Rattle.rm_machine_laws.proofs.Halting.{rests}
use Rattle.rm_machine_laws.proofs.frame.a_machine_rests.Goals as goal

pub returns : goal.returns
returns a held kept m holds = rests held kept m holds
