use Rattle.rm_machine_laws.proofs.Every.{every-roomy}
use Rattle.rm_machine_laws.proofs.frame.no_id_is_given_twice.Goals as goal

pub returns : goal.returns
returns a c s held lines e t sound comes = (every-roomy c s held lines e t sound comes).given
