use Rattle.rm_catalog.proofs.{Passing.{order_after_all}, Lookups.{at_after}}
use Rattle.rm_catalog.proofs.laws.an_edit_changes_one_key.Goals as goal

pub returns-clause-found : goal.returns-clause-found
returns-clause-found c e rs p = at_after e rs p

pub returns-clause-order : goal.returns-clause-order
returns-clause-order c es rs order = order_after_all es rs order
