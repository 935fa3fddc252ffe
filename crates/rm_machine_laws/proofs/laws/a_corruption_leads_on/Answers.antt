use Rattle.rm_machine_laws.proofs.{Leading.{leads, stays}, Corrupting.{corrupt-on, corrupt-stays}}
use Rattle.rm_machine_laws.proofs.laws.a_corruption_leads_on.Goals as goal
use Rattle.rm_lang_statement.specs.declared.command.Command.TheVariants.{Corrupt}

pub returns-clause-leads : goal.returns-clause-leads
returns-clause-leads c file block = leads (Corrupt file block) (corrupt-on file block)

pub returns-clause-stays : goal.returns-clause-stays
returns-clause-stays c file block = stays (Corrupt file block) (corrupt-stays file block)
