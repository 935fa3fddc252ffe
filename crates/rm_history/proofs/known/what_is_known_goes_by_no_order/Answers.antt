use Rattle.rm_history.proofs.Facts.{told-in-any-order, unknown-in-any-order}
use Rattle.rm_history.proofs.known.what_is_known_goes_by_no_order.Goals as goal

pub returns-clause-told : goal.returns-clause-told
returns-clause-told c w e i s f b v x target told = told-in-any-order w e i s f b v x target told

pub returns-clause-gap : goal.returns-clause-gap
returns-clause-gap c w e i s f b m g world target has = unknown-in-any-order w e i s f b m g world target has
