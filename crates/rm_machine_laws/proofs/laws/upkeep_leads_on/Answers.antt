use Rattle.rm_machine_laws.proofs.{Deleting.{delete-on, delete-stays}, Leading.{leads, stays}}
use Rattle.rm_machine_laws.proofs.Upkeep.{changed-on, changed-stays, checked-on, checked-stays, expired-on, expired-stays}
use Rattle.rm_machine_laws.proofs.laws.upkeep_leads_on.Goals as goal
use Rattle.rm_lang_statement.specs.declared.command.Command.TheVariants.{ChangeBackup, Crosscheck, DeleteBackup, DeleteExpired}

pub returns-clause-changes : goal.returns-clause-changes
returns-clause-changes c id to = leads (ChangeBackup id to) (changed-on id to)

pub returns-clause-deletes : goal.returns-clause-deletes
returns-clause-deletes c id = leads (DeleteBackup id) (delete-on id)

pub returns-clause-checks : goal.returns-clause-checks
returns-clause-checks c class = leads (Crosscheck class) (checked-on class)

pub returns-clause-expires : goal.returns-clause-expires
returns-clause-expires c class = leads (DeleteExpired class) (expired-on class)

pub returns-clause-change_stays : goal.returns-clause-change_stays
returns-clause-change_stays c id to = stays (ChangeBackup id to) (changed-stays id to)

pub returns-clause-delete_stays : goal.returns-clause-delete_stays
returns-clause-delete_stays c id = stays (DeleteBackup id) (delete-stays id)

pub returns-clause-check_stays : goal.returns-clause-check_stays
returns-clause-check_stays c class = stays (Crosscheck class) (checked-stays class)

pub returns-clause-expire_stays : goal.returns-clause-expire_stays
returns-clause-expire_stays c class = stays (DeleteExpired class) (expired-stays class)
