use Rattle.rm_tool.proofs.Telling.{nothing-held}
use Rattle.rm_tool.proofs.laws.an_empty_keeper_holds_nothing.Goals as goal

pub returns : goal.returns
returns c = nothing-held
