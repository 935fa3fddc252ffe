-- What is so of every store is so of one that holds nothing.
use Rattle.std.proofs.Common.{None}
use Rattle.rm_base.specs.Store.{Held}

-- a store that holds nothing
pub nothing : Held
nothing name = None
