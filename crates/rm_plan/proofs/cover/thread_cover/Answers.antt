use Rattle.rm_plan.proofs.Switched.{all-apart, all-late}
use Rattle.rm_plan.proofs.cover.thread_cover.Goals as goal

pub idle_spans-requires-clause-scns : goal.idle_spans-requires-clause-scns
idle_spans-requires-clause-scns c = all-late c.args.catalog.now c.args.all.now c.records.ensures.catalog c.requires.all

pub idle_spans-requires-clause-apart : goal.idle_spans-requires-clause-apart
idle_spans-requires-clause-apart c = all-apart c.args.catalog.now c.args.all.now c.records.ensures.catalog c.requires.all
