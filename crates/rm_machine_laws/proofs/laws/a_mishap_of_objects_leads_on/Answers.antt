use Rattle.rm_machine_laws.proofs.Leading.{leads, stays}
use Rattle.rm_machine_laws.proofs.Mishaps.{cut-on, cut-stays, damage-on, damage-stays, remove-on, remove-stays, rename-on, rename-stays}
use Rattle.rm_machine_laws.proofs.laws.a_mishap_of_objects_leads_on.Goals as goal
use Rattle.rm_lang_statement.specs.declared.command.Command.TheVariants.{Cut, Damage, Remove, Rename}

pub returns-clause-removes : goal.returns-clause-removes
returns-clause-removes c name = leads (Remove name) (remove-on name)

pub returns-clause-damages : goal.returns-clause-damages
returns-clause-damages c name at = leads (Damage name at) (damage-on name at)

pub returns-clause-cuts : goal.returns-clause-cuts
returns-clause-cuts c name to = leads (Cut name to) (cut-on name to)

pub returns-clause-renames : goal.returns-clause-renames
returns-clause-renames c old new = leads (Rename old new) (rename-on old new)

pub returns-clause-remove_stays : goal.returns-clause-remove_stays
returns-clause-remove_stays c name = stays (Remove name) (remove-stays name)

pub returns-clause-damage_stays : goal.returns-clause-damage_stays
returns-clause-damage_stays c name at = stays (Damage name at) (damage-stays name at)

pub returns-clause-cut_stays : goal.returns-clause-cut_stays
returns-clause-cut_stays c name to = stays (Cut name to) (cut-stays name to)

pub returns-clause-rename_stays : goal.returns-clause-rename_stays
returns-clause-rename_stays c old new = stays (Rename old new) (rename-stays old new)
