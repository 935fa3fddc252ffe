use Rattle.rm_machine_laws.proofs.Every.{every-roomy}
use Rattle.rm_machine_laws.proofs.frame.each_statement_leaves_the_ids_of_a_save.Goals as goal

pub returns : goal.returns
returns a c s held lines e t sound comes = (every-roomy c s held lines e t sound comes).save
