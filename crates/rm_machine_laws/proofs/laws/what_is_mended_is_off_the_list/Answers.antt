use Rattle.rm_machine_laws.proofs.Repairing.{list-after, none-after}
use Rattle.rm_machine_laws.proofs.laws.what_is_mended_is_off_the_list.Goals as goal

pub returns-clause-exact : goal.returns-clause-exact
returns-clause-exact c form s held lines effect t does = list-after form s held lines effect t does

pub returns-clause-all : goal.returns-clause-all
returns-clause-all c form s held lines effect t all does = none-after form s held lines effect t all does
