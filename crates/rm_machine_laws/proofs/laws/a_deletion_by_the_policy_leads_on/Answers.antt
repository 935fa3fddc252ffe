use Rattle.rm_machine_laws.proofs.{DeletingObsolete.{obsolete-on, obsolete-stays}, Leading.{leads, stays}}
use Rattle.rm_machine_laws.proofs.laws.a_deletion_by_the_policy_leads_on.Goals as goal
use Rattle.rm_lang_statement.specs.declared.command.Command.TheVariants.{DeleteObsolete}

pub returns-clause-leads : goal.returns-clause-leads
returns-clause-leads c = leads DeleteObsolete obsolete-on

pub returns-clause-stays : goal.returns-clause-stays
returns-clause-stays c = stays DeleteObsolete obsolete-stays
