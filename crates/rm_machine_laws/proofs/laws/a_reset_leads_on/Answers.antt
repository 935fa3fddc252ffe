use Rattle.rm_machine_laws.proofs.{Leading.{leads, stays}, Choosing.{choose-on, choose-stays}}
use Rattle.rm_machine_laws.proofs.laws.a_reset_leads_on.Goals as goal
use Rattle.rm_lang_statement.specs.declared.command.Command.TheVariants.{ResetDatabase}

pub returns-clause-leads : goal.returns-clause-leads
returns-clause-leads c inc = leads (ResetDatabase inc) (choose-on inc)

pub returns-clause-stays : goal.returns-clause-stays
returns-clause-stays c inc = stays (ResetDatabase inc) (choose-stays inc)
