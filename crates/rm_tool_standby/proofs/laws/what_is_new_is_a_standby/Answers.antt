use Rattle.rm_tool_standby.proofs.Finding.{new-is}
use Rattle.rm_tool_standby.proofs.laws.what_is_new_is_a_standby.Goals as goal

pub returns : goal.returns
returns c a s task found new lines comes = (new-is a s task found new lines comes).full
