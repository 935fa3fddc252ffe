use Rattle.rm_machine.proofs.Later.{sound-later}
use Rattle.rm_machine_laws.proofs.laws.a_moment_keeps_a_state_sound.Goals as goal

pub returns : goal.returns
returns c = sound-later
