use Rattle.rm_history.proofs.States.{state-members}
use Rattle.rm_history.proofs.laws.order_changes_no_state.Goals as goal

pub returns : goal.returns
returns c = state-members
