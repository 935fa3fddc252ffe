use Rattle.rm_tool_standby.proofs.Finding.{done-found}
use Rattle.rm_tool_standby.proofs.laws.what_is_done_is_found.Goals as goal

pub returns : goal.returns
returns c task a b before now x = done-found task a b before now x
