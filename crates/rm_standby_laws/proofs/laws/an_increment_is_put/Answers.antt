use Rattle.rm_standby_laws.proofs.Standing.{increment-put}
use Rattle.rm_standby_laws.proofs.laws.an_increment_is_put.Goals as goal

pub returns : goal.returns
returns c = increment-put
