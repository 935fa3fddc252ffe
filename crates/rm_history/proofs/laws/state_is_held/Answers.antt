use Rattle.rm_history.proofs.States.{state-held}
use Rattle.rm_history.proofs.laws.state_is_held.Goals as goal

pub returns : goal.returns
returns c = state-held
