use Rattle.rm_history.proofs.Orders.{base-same, level1-same}
use Rattle.rm_history.proofs.laws.order_changes_no_agreement.Goals as goal

pub returns-clause-base : goal.returns-clause-base
returns-clause-base c w h k a history same = base-same w k history h same a

pub returns-clause-level1 : goal.returns-clause-level1
returns-clause-level1 c w h k a history same = level1-same w k history h same a
