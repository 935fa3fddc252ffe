use Rattle.std.proofs.Common.{true}
use Rattle.rm_machine_laws.proofs.{Leading.{leads, stays}, Enabling.{enable-on, enable-stays}}
use Rattle.rm_machine_laws.proofs.laws.an_enabled_thread_leads_on.Goals as goal
use Rattle.rm_lang_statement.specs.declared.command.Command.TheVariants.{SwitchThread}

pub returns-clause-leads : goal.returns-clause-leads
returns-clause-leads c thread = leads (SwitchThread thread true) (enable-on thread)

pub returns-clause-stays : goal.returns-clause-stays
returns-clause-stays c thread = stays (SwitchThread thread true) (enable-stays thread)
