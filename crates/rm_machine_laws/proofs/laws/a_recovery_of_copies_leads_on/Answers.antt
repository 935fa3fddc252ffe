use Rattle.rm_machine_laws.proofs.{Leading.{leads, stays}, Renewals.{renew-on, renew-stays}}
use Rattle.rm_machine_laws.proofs.laws.a_recovery_of_copies_leads_on.Goals as goal
use Rattle.rm_lang_statement.specs.declared.command.Command.TheVariants.{RecoverCopy}

pub returns-clause-leads : goal.returns-clause-leads
returns-clause-leads c tag until = leads (RecoverCopy tag until) (renew-on tag until)

pub returns-clause-stays : goal.returns-clause-stays
returns-clause-stays c tag until = stays (RecoverCopy tag until) (renew-stays tag until)
