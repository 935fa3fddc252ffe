use Rattle.rm_history.proofs.Growth.{LogAgrees-grown}
use Rattle.rm_history.proofs.laws.growth_keeps_logs.Goals as goal

pub returns : goal.returns
returns c = LogAgrees-grown
