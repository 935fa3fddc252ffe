use Rattle.std.proofs.Common.{sym}
use Rattle.rm_history.proofs.States.{state-one}
use Rattle.rm_history.proofs.laws.state_is_one.Goals as goal

pub returns : goal.returns
returns c w h i s f r history is = sym (state-one w h i s f r history is)
