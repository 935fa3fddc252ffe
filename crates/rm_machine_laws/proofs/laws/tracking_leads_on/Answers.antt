use Rattle.rm_machine_laws.proofs.{Leading.{leads, stays}, Tracking.{tracking-on, tracking-stays}}
use Rattle.rm_machine_laws.proofs.laws.tracking_leads_on.Goals as goal
use Rattle.rm_lang_statement.specs.declared.command.Command.TheVariants.{Tracking}

pub returns-clause-leads : goal.returns-clause-leads
returns-clause-leads c on = leads (Tracking on) (tracking-on on)

pub returns-clause-stays : goal.returns-clause-stays
returns-clause-stays c on = stays (Tracking on) (tracking-stays on)
