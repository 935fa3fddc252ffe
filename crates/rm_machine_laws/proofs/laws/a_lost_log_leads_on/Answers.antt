use Rattle.rm_machine_laws.proofs.{Leading.{leads, stays}, LosingLog.{lose_log-on, lose_log-stays}}
use Rattle.rm_machine_laws.proofs.laws.a_lost_log_leads_on.Goals as goal
use Rattle.rm_lang_statement.specs.declared.command.Command.TheVariants.{LoseLog}

pub returns-clause-leads : goal.returns-clause-leads
returns-clause-leads c thread = leads (LoseLog thread) (lose_log-on thread)

pub returns-clause-stays : goal.returns-clause-stays
returns-clause-stays c thread = stays (LoseLog thread) (lose_log-stays thread)
