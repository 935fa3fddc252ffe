use Rattle.std.proofs.Common.{◌∙◌, sym}
use Rattle.rm_evidence.proofs.Current.{created_above}
use Rattle.rm_plan.proofs.first.gap_of_file.Goals as goal

pub exists-requires-clause-created : goal.exists-requires-clause-created
exists-requires-clause-created c = created_above c.args.catalog.now c.args.file c.in-Some.found c.records.ensures.catalog c.requires.database (sym c.datafile.ensures ∙ c.in-Some.is)
