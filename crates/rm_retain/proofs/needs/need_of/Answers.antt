use Rattle.std.proofs.Common.{◌∙◌, sym}
use Rattle.rm_evidence.proofs.Current.{created_above}
use Rattle.rm_retain.proofs.needs.need_of.Goals as goal

pub is_on_path-requires-clause-created : goal.is_on_path-requires-clause-created
is_on_path-requires-clause-created c = created_above c.args.catalog.now c.args.file c.in-Some.found c.records.ensures.catalog c.requires.database (sym c.datafile.ensures ∙ c.in-Some.is)
