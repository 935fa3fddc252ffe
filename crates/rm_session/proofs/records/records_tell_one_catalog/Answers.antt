use Rattle.rm_catalog_typed.proofs.Recorded.{one-catalog}
use Rattle.rm_session.proofs.records.records_tell_one_catalog.Goals as goal

pub returns : goal.returns
returns a x y same = one-catalog x y same
