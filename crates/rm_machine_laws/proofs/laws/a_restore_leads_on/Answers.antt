use Rattle.rm_machine_laws.proofs.{Leading.{leads, stays}, Restoring.{restore-on, restore-stays}}
use Rattle.rm_machine_laws.proofs.laws.a_restore_leads_on.Goals as goal
use Rattle.rm_lang_statement.specs.declared.command.Command.TheVariants.{Restore}

pub returns-clause-leads : goal.returns-clause-leads
returns-clause-leads c file until = leads (Restore file until) (restore-on file until)

pub returns-clause-stays : goal.returns-clause-stays
returns-clause-stays c file until = stays (Restore file until) (restore-stays file until)
