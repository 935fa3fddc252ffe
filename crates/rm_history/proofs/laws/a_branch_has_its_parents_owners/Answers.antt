use Rattle.rm_history.proofs.Branches.{owner-branched, owner-branched_below}
use Rattle.rm_history.proofs.laws.a_branch_has_its_parents_owners.Goals as goal

pub returns-clause-own : goal.returns-clause-own
returns-clause-own c tree p at g is = owner-branched tree p at g is.parents

pub returns-clause-below : goal.returns-clause-below
returns-clause-below c tree p at g is = owner-branched_below tree p at g is.parents
