use Rattle.rm_session.proofs.Resting.{rests}
use Rattle.rm_session.proofs.saved_laws.what_is_saved_rests.Goals as goal

pub returns : goal.returns
returns c = rests
