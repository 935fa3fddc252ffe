use Rattle.rm_history.proofs.{Growth.{state-push_top}, Histories.{state-push_other}}
use Rattle.rm_history.proofs.laws.one_change_more.Goals as goal

pub returns-clause-other : goal.returns-clause-other
returns-clause-other c = state-push_other

pub returns-clause-top : goal.returns-clause-top
returns-clause-top c = state-push_top
