use Rattle.rm_history.proofs.Owners.{owner-there, owner-begun, owner-owner, owner-here}
use Rattle.rm_history.proofs.laws.owners.Goals as goal

pub returns-clause-there : goal.returns-clause-there
returns-clause-there c tree i g is = owner-there tree is.parents i g

pub returns-clause-begun : goal.returns-clause-begun
returns-clause-begun c tree i g is there = owner-begun tree is.parents i g

pub returns-clause-below : goal.returns-clause-below
returns-clause-below c tree i g d is there = owner-owner tree is.parents i g d

pub returns-clause-own : goal.returns-clause-own
returns-clause-own c tree i g is there = owner-here tree is.parents i g there.0
