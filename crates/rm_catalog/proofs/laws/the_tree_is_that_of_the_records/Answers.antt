use Rattle.rm_catalog.proofs.Trees.{path_is, in_tree_is}
use Rattle.rm_catalog.proofs.laws.the_tree_is_that_of_the_records.Goals as goal

pub returns-clause-incarnations : goal.returns-clause-incarnations
returns-clause-incarnations c rs n i catalog found = in_tree_is rs n i catalog found

pub returns-clause-paths : goal.returns-clause-paths
returns-clause-paths c rs i g catalog there = path_is rs i g catalog there
