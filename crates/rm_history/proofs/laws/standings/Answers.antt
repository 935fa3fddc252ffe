use Rattle.rm_history.proofs.Paths.{standing-is_current, standing-is_parent, standing-is_orphan}
use Rattle.rm_history.proofs.laws.standings.Goals as goal

pub returns-clause-current : goal.returns-clause-current
returns-clause-current c = standing-is_current

pub returns-clause-parent : goal.returns-clause-parent
returns-clause-parent c = standing-is_parent

pub returns-clause-orphan : goal.returns-clause-orphan
returns-clause-orphan c = standing-is_orphan
