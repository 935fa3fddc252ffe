use Rattle.rm_step_tell.proofs.Dates.{damage-front}
use Rattle.rm_step_tell.proofs.corruption.list_corruption.Goals as goal

pub returns-clause-dates : goal.returns-clause-dates
returns-clause-dates c = damage-front c.args.state.now c.loop-damaged.lines _ c.loop-damaged.invariant
