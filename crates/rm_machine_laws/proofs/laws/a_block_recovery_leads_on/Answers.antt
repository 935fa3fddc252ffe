use Rattle.rm_machine_laws.proofs.{Leading.{leads, stays}, Repairing.{repair-on, repair-stays}}
use Rattle.rm_machine_laws.proofs.laws.a_block_recovery_leads_on.Goals as goal
use Rattle.rm_lang_statement.specs.declared.command.Command.TheVariants.{BlockRecover}

pub returns-clause-leads : goal.returns-clause-leads
returns-clause-leads c form = leads (BlockRecover form) (repair-on form)

pub returns-clause-stays : goal.returns-clause-stays
returns-clause-stays c form = stays (BlockRecover form) (repair-stays form)
