use Rattle.std.proofs.Common.{◌∙◌, sym}
use Rattle.rm_catalog_typed.proofs.Wholes.{none-whole}
use Rattle.rm_catalog_typed.proofs.loading.of_whole.Goals as goal

pub returns-in-None : goal.returns-in-None
returns-in-None c = none-whole c.args.whole c.into_parts-records.ensures.catalog (sym c.into_parts-records.ensures.tree ∙ c.in-None.is)
