use Rattle.rm_history.proofs.{Ends.{IsTree-with_end}, Histories.{IsHistory-with_end, state-with_end}}
use Rattle.rm_history.proofs.Worlds.{exists-with_end, BaseAgrees-with_end, Level1Agrees-with_end}
use Rattle.rm_history.proofs.laws.ends_change_no_state.Goals as goal

pub returns-clause-tree : goal.returns-clause-tree
returns-clause-tree c tree j end is there = IsTree-with_end tree j end there is

pub returns-clause-history : goal.returns-clause-history
returns-clause-history c = IsHistory-with_end

pub returns-clause-state : goal.returns-clause-state
returns-clause-state c = state-with_end

pub returns-clause-exists : goal.returns-clause-exists
returns-clause-exists c = exists-with_end

pub returns-clause-base : goal.returns-clause-base
returns-clause-base c = BaseAgrees-with_end

pub returns-clause-level1 : goal.returns-clause-level1
returns-clause-level1 c = Level1Agrees-with_end
