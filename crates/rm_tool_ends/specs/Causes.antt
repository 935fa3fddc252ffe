-- How a call ends where one below it failed.
use Rattle.rm_commit.specs.declared.commit.Stop.{Stop}
use Rattle.rm_commit.specs.declared.commit.Stop.TheVariants as stop
use Rattle.rm_tool_ends.specs.declared.ended.Ended.{Ended}
use Rattle.rm_tool_ends.specs.declared.ended.Ended.TheVariants as ended

-- it was stopped by a store or by what keeps the records, or memory was wanting
abbrev pub of_stop : Stop → Ended
of_stop stop.StoreFault = ended.Store
of_stop stop.KeeperFault = ended.Keeper
of_stop stop.NoMemory = ended.NoMemory
