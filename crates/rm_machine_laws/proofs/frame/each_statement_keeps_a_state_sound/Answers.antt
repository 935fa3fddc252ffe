use Rattle.rm_machine_laws.proofs.{Leading.{stays}, Every.{every-stays}}
use Rattle.rm_machine_laws.proofs.frame.each_statement_keeps_a_state_sound.Goals as goal

pub returns : goal.returns
returns a c = stays c (every-stays c)
