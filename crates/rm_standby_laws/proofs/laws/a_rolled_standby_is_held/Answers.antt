use Rattle.rm_standby_laws.proofs.Beginning.{rolled-held}
use Rattle.rm_standby_laws.proofs.laws.a_rolled_standby_is_held.Goals as goal

pub returns : goal.returns
returns c = rolled-held
