use Rattle.std.proofs.Common.{◌∙◌, sym}
use Rattle.rm_evidence.proofs.Current.{created_above}
use Rattle.rm_apply.proofs.targets.target.Goals as goal

pub exists-requires-clause-created : goal.exists-requires-clause-created
exists-requires-clause-created c = created_above c.args.catalog.now c.args.number c.in-Some.found c.records.ensures.catalog c.requires.database (sym c.datafile.ensures ∙ c.in-Some.is)
