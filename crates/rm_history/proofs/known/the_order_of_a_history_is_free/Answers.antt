use Rattle.rm_history.proofs.Orders.{any-order, ordered}
use Rattle.rm_history.proofs.known.the_order_of_a_history_is_free.Goals as goal

pub returns-clause-ordered : goal.returns-clause-ordered
returns-clause-ordered c w k e history agrees = ordered w k history e agrees

pub returns-clause-any : goal.returns-clause-any
returns-clause-any c w h e agrees ascend = any-order w h e agrees ascend
