use Rattle.rm_history.proofs.Worlds.{state-branched, exists-branched}
use Rattle.rm_history.proofs.laws.a_branch_has_its_parents_states.Goals as goal

pub returns-clause-state : goal.returns-clause-state
returns-clause-state c w p at h s f b is there = state-branched w p at is.parents there h s f b

pub returns-clause-exists : goal.returns-clause-exists
returns-clause-exists c w p at s d is there = exists-branched w p at is.parents there s d
