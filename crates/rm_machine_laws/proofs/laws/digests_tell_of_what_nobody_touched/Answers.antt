use Rattle.rm_machine_laws.proofs.Agreeing.{untouched-tell}
use Rattle.rm_machine_laws.proofs.laws.digests_tell_of_what_nobody_touched.Goals as goal

pub returns : goal.returns
returns c = untouched-tell
