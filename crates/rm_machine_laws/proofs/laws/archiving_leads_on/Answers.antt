use Rattle.rm_machine_laws.proofs.{Leading.{leads, stays}, ArchivingAll.{all-on, all-stays}}
use Rattle.rm_machine_laws.proofs.laws.archiving_leads_on.Goals as goal
use Rattle.rm_lang_statement.specs.declared.command.Command.TheVariants.{ArchiveLogCurrent}

pub returns-clause-leads : goal.returns-clause-leads
returns-clause-leads c = leads ArchiveLogCurrent all-on

pub returns-clause-stays : goal.returns-clause-stays
returns-clause-stays c = stays ArchiveLogCurrent all-stays
