use Rattle.rm_machine_laws.proofs.{Leading.{leads, stays}, AddingDatafile.{create-on, create-stays}}
use Rattle.rm_machine_laws.proofs.laws.a_new_datafile_leads_on.Goals as goal
use Rattle.rm_lang_statement.specs.declared.command.Command.TheVariants.{CreateDatafile}

pub returns-clause-leads : goal.returns-clause-leads
returns-clause-leads c blocks = leads (CreateDatafile blocks) (create-on blocks)

pub returns-clause-stays : goal.returns-clause-stays
returns-clause-stays c blocks = stays (CreateDatafile blocks) (create-stays blocks)
