use Rattle.rm_machine_laws.proofs.{Leading.{leads, stays}, Branching.{resets-on, resets-stays}}
use Rattle.rm_machine_laws.proofs.laws.an_opening_with_resetlogs_leads_on.Goals as goal
use Rattle.rm_lang_statement.specs.declared.command.Command.TheVariants.{OpenResetlogs}

pub returns-clause-leads : goal.returns-clause-leads
returns-clause-leads c = leads OpenResetlogs resets-on

pub returns-clause-stays : goal.returns-clause-stays
returns-clause-stays c = stays OpenResetlogs resets-stays
