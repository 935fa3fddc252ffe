use Rattle.rm_lang_statement.specs.declared.command.Command.TheVariants.{BackupFrom}
use Rattle.rm_machine_laws.proofs.{Leading.{leads, stays}, Rolling.{roll-on, roll-stays}}
use Rattle.rm_machine_laws.proofs.laws.an_increment_leads_on.Goals as goal

pub returns-clause-leads : goal.returns-clause-leads
returns-clause-leads c scn = leads (BackupFrom scn) (roll-on scn)

pub returns-clause-stays : goal.returns-clause-stays
returns-clause-stays c scn = stays (BackupFrom scn) (roll-stays scn)
