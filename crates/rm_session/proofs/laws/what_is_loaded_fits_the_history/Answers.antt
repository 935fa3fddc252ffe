use Rattle.rm_session.proofs.Waking.{waking-sound}
use Rattle.rm_session.proofs.laws.what_is_loaded_fits_the_history.Goals as goal

pub returns : goal.returns
returns c = waking-sound
