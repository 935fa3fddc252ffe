use Rattle.std.proofs.Common.{false}
use Rattle.rm_machine_laws.proofs.{Leading.{leads, stays}, Disabling.{disable-on, disable-stays}}
use Rattle.rm_machine_laws.proofs.laws.a_disabled_thread_leads_on.Goals as goal
use Rattle.rm_lang_statement.specs.declared.command.Command.TheVariants.{SwitchThread}

pub returns-clause-leads : goal.returns-clause-leads
returns-clause-leads c thread = leads (SwitchThread thread false) (disable-on thread)

pub returns-clause-stays : goal.returns-clause-stays
returns-clause-stays c thread = stays (SwitchThread thread false) (disable-stays thread)
