use Rattle.rm_step_tell.proofs.Dates.{schema-front}
use Rattle.rm_step_tell.proofs.schema.report_schema.Goals as goal

pub returns-clause-dates : goal.returns-clause-dates
returns-clause-dates c = schema-front c.args.state.now c.loop-index.lines _ c.loop-index.invariant
