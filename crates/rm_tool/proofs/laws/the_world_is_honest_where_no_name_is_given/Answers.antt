use Rattle.rm_tool.proofs.Telling.{honest-along, untouched-first}
use Rattle.rm_tool.proofs.laws.the_world_is_honest_where_no_name_is_given.Goals as goal

pub returns-clause-untouched : goal.returns-clause-untouched
returns-clause-untouched c = honest-along

pub returns-clause-script : goal.returns-clause-script
returns-clause-script c = λ objects first wakes. honest-along first (untouched-first objects first wakes)
