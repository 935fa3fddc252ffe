use Rattle.rm_machine_laws.proofs.{Leading.{leads, stays}, Recovered.{recover-on, recover-stays}}
use Rattle.rm_machine_laws.proofs.laws.a_recovery_leads_on.Goals as goal
use Rattle.rm_lang_statement.specs.declared.command.Command.TheVariants.{Recover}

pub returns-clause-leads : goal.returns-clause-leads
returns-clause-leads c until = leads (Recover until) (recover-on until)

pub returns-clause-stays : goal.returns-clause-stays
returns-clause-stays c until = stays (Recover until) (recover-stays until)
