use Rattle.rm_machine_laws.proofs.{Leading.{leads, stays}, Losing.{lose-on, lose-stays}}
use Rattle.rm_machine_laws.proofs.laws.a_lost_datafile_leads_on.Goals as goal
use Rattle.rm_lang_statement.specs.declared.command.Command.TheVariants.{LoseDatafile}

pub returns-clause-leads : goal.returns-clause-leads
returns-clause-leads c file = leads (LoseDatafile file) (lose-on file)

pub returns-clause-stays : goal.returns-clause-stays
returns-clause-stays c file = stays (LoseDatafile file) (lose-stays file)
