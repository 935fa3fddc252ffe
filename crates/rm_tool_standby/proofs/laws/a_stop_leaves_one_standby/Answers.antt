use Rattle.rm_tool_standby.proofs.Stopped.{one-is-found}
use Rattle.rm_tool_standby.proofs.laws.a_stop_leaves_one_standby.Goals as goal

pub returns : goal.returns
returns c found new before after is left valid full stopped torn = one-is-found found new before after is left valid full stopped torn
