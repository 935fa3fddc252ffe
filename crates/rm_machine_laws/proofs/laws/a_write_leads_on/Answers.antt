use Rattle.rm_machine_laws.proofs.{Leading.{leads, stays}, Writing.{write-on, write-stays}}
use Rattle.rm_machine_laws.proofs.laws.a_write_leads_on.Goals as goal
use Rattle.rm_lang_statement.specs.declared.command.Command.TheVariants.{Write}

pub returns-clause-leads : goal.returns-clause-leads
returns-clause-leads c w = leads (Write w) (write-on w)

pub returns-clause-stays : goal.returns-clause-stays
returns-clause-stays c w = stays (Write w) (write-stays w)
