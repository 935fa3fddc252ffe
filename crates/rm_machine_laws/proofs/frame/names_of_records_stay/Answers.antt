use Rattle.rm_machine_laws.proofs.Every.{every-loose}
use Rattle.rm_machine_laws.proofs.frame.names_of_records_stay.Goals as goal

pub returns : goal.returns
returns a c = every-loose c
