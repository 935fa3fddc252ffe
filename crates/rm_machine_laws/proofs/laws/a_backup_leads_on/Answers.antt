use Rattle.rm_machine_laws.proofs.{Leading.{leads, stays}, BackingUp.{backup-on, backup-stays}}
use Rattle.rm_machine_laws.proofs.laws.a_backup_leads_on.Goals as goal
use Rattle.rm_lang_statement.specs.declared.command.Command.TheVariants.{Backup}

pub returns-clause-leads : goal.returns-clause-leads
returns-clause-leads c form = leads (Backup form) (backup-on form)

pub returns-clause-stays : goal.returns-clause-stays
returns-clause-stays c form = stays (Backup form) (backup-stays form)
