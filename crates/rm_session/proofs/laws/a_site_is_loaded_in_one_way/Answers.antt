use Rattle.rm_session.proofs.OneWay.{one-way}
use Rattle.rm_session.proofs.laws.a_site_is_loaded_in_one_way.Goals as goal

pub returns : goal.returns
returns c = one-way
