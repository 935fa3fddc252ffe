use Rattle.rm_machine_laws.proofs.{Leading.{leads, stays}, Mounting.{mount-on, mount-stays}}
use Rattle.rm_machine_laws.proofs.laws.a_mount_leads_on.Goals as goal
use Rattle.rm_lang_statement.specs.declared.command.Command.TheVariants.{Mount}

pub returns-clause-leads : goal.returns-clause-leads
returns-clause-leads c = leads Mount mount-on

pub returns-clause-stays : goal.returns-clause-stays
returns-clause-stays c = stays Mount mount-stays
