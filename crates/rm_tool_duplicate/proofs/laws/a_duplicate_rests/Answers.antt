use Rattle.rm_tool_duplicate.proofs.Resting.{carried-rests}
use Rattle.rm_tool_duplicate.proofs.laws.a_duplicate_rests.Goals as goal

pub returns : goal.returns
returns c = record { rests = carried-rests }
