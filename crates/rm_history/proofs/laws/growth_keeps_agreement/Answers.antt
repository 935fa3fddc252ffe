use Rattle.rm_history.proofs.Growth.{BaseAgrees-grown, Level1Agrees-grown}
use Rattle.rm_history.proofs.laws.growth_keeps_agreement.Goals as goal

pub returns-clause-base : goal.returns-clause-base
returns-clause-base c w h d a history = BaseAgrees-grown w h d history a

pub returns-clause-level1 : goal.returns-clause-level1
returns-clause-level1 c w h d a history = Level1Agrees-grown w h d history a
