use Rattle.rm_machine_laws.proofs.{Leading.{leads, stays}, BackingUpLogs.{back_logs-on, back_logs-stays}}
use Rattle.rm_machine_laws.proofs.laws.a_backup_of_logs_leads_on.Goals as goal
use Rattle.rm_lang_statement.specs.declared.command.Command.TheVariants.{BackupLogs}

pub returns-clause-leads : goal.returns-clause-leads
returns-clause-leads c = leads BackupLogs back_logs-on

pub returns-clause-stays : goal.returns-clause-stays
returns-clause-stays c = stays BackupLogs back_logs-stays
