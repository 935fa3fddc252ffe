use Rattle.rm_standby_laws.proofs.Beginning.{made-held}
use Rattle.rm_standby_laws.proofs.laws.a_made_standby_is_held.Goals as goal

pub returns : goal.returns
returns c = made-held
