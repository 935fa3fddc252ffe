use Rattle.rm_history.proofs.Worlds.{IsChange-with_branch, IsHistory-with_branch, state-with_branch, exists-with_branch, BaseAgrees-with_branch, Level1Agrees-with_branch}
use Rattle.rm_history.proofs.laws.branches_change_no_state.Goals as goal

pub returns-clause-change : goal.returns-clause-change
returns-clause-change c w p at d is there = IsChange-with_branch w p at is.parents there d

pub returns-clause-history : goal.returns-clause-history
returns-clause-history c w p at h is there = IsHistory-with_branch w p at is.parents there h

pub returns-clause-state : goal.returns-clause-state
returns-clause-state c w p at h i s f b is there = state-with_branch w p at is.parents there h i s f b

pub returns-clause-exists : goal.returns-clause-exists
returns-clause-exists c w p at i s d is there = exists-with_branch w p at is.parents there i s d

pub returns-clause-base : goal.returns-clause-base
returns-clause-base c w p at h a is there = BaseAgrees-with_branch w p at is.parents there h a

pub returns-clause-level1 : goal.returns-clause-level1
returns-clause-level1 c w p at h a is there = Level1Agrees-with_branch w p at is.parents there h a
