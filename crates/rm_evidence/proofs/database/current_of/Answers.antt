use Rattle.std.proofs.Common.{◌∙◌, sym}
use Rattle.rm_catalog.proofs.Current.{has_base, current_there}
use Rattle.rm_evidence.proofs.database.current_of.Goals as goal

pub unreachable-requires : goal.unreachable-requires
unreachable-requires c = has_base c.args.catalog.now c.requires.database (sym c.base_of.ensures ∙ c.in-None.is)

pub returns-clause-there : goal.returns-clause-there
returns-clause-there c = current_there c.args.catalog.now c.in-Some.base c.records.ensures.catalog (sym c.base_of.ensures ∙ c.in-Some.is)
