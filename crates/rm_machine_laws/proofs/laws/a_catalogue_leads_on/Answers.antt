use Rattle.rm_machine_laws.proofs.{Cataloguing.{catalog-leads, catalog-stays}, Leading.{stays}}
use Rattle.rm_machine_laws.proofs.laws.a_catalogue_leads_on.Goals as goal
use Rattle.rm_lang_statement.specs.declared.command.Command.TheVariants.{CatalogName}

pub returns-clause-leads : goal.returns-clause-leads
returns-clause-leads c = catalog-leads

pub returns-clause-stays : goal.returns-clause-stays
returns-clause-stays c name = stays (CatalogName name) (catalog-stays name)
