use Rattle.rm_machine_laws.proofs.Creating.{fresh-sound}
use Rattle.rm_machine_laws.proofs.laws.a_new_database_is_sound.Goals as goal

pub returns : goal.returns
returns c objects dbid threads scn moment some small least most first last kept = fresh-sound dbid threads scn moment some small least most first last kept objects
