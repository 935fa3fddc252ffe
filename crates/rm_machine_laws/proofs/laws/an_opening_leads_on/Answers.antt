use Rattle.rm_machine_laws.proofs.{Leading.{leads, stays}, Opening.{open-on, open-stays}}
use Rattle.rm_machine_laws.proofs.laws.an_opening_leads_on.Goals as goal
use Rattle.rm_lang_statement.specs.declared.command.Command.TheVariants.{OpenPlain}

pub returns-clause-leads : goal.returns-clause-leads
returns-clause-leads c = leads OpenPlain open-on

pub returns-clause-stays : goal.returns-clause-stays
returns-clause-stays c = stays OpenPlain open-stays
