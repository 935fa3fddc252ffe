use Rattle.rm_history.proofs.Ends.{owner-with_end}
use Rattle.rm_history.proofs.laws.ends_change_no_owner.Goals as goal

pub returns : goal.returns
returns c = owner-with_end
