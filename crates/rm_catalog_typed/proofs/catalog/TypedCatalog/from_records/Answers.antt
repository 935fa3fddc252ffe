use Rattle.std.proofs.Common.{◌∙◌}
use Rattle.rm_catalog_typed.proofs.catalog.TypedCatalog.from_records.Goals as goal

pub returns-in_ok-of_whole-in-Ok-clause-only : goal.returns-in_ok-of_whole-in-Ok-clause-only
returns-in_ok-of_whole-in-Ok-clause-only c s order valid = c.in_ok-of_whole-in-Ok.ensures ∙ c.in-Ok.ensures.only s order valid
