use Rattle.rm_machine_laws.proofs.{Leading.{leads, stays}, Switching.{switch-on, switch-stays}}
use Rattle.rm_machine_laws.proofs.laws.a_switch_leads_on.Goals as goal
use Rattle.rm_lang_statement.specs.declared.command.Command.TheVariants.{SwitchLogfile}

pub returns-clause-leads : goal.returns-clause-leads
returns-clause-leads c thread = leads (SwitchLogfile thread) (switch-on thread)

pub returns-clause-stays : goal.returns-clause-stays
returns-clause-stays c thread = stays (SwitchLogfile thread) (switch-stays thread)
