use Rattle.rm_history.proofs.Branches.{IsTree-with_branch, parent_of-with_branch, reset_of-with_branch, end_of-with_branch, owner-with_branch}
use Rattle.rm_history.proofs.laws.branches_keep_the_tree.Goals as goal

pub returns-clause-tree : goal.returns-clause-tree
returns-clause-tree c = IsTree-with_branch

pub returns-clause-parent : goal.returns-clause-parent
returns-clause-parent c = parent_of-with_branch

pub returns-clause-reset : goal.returns-clause-reset
returns-clause-reset c = reset_of-with_branch

pub returns-clause-end : goal.returns-clause-end
returns-clause-end c = end_of-with_branch

pub returns-clause-owner : goal.returns-clause-owner
returns-clause-owner c tree p at i g is = owner-with_branch tree p at i g is.parents
