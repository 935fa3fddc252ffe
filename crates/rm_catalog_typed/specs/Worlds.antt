-- The database of which a ledger tells.
use Rattle.rm_history.specs.declared.world.World.{World}
use Rattle.rm_evidence.specs.Database.{Database}
use Rattle.rm_catalog_typed.specs.{Ledger.{Ledger}, Switches.{switches_of}}

-- as recovery knows it
abbrev pub world_of : Ledger → World
world_of l = record { tree = l.tree; threads = l.base.threads; switches = switches_of l; files = l.files }

-- with which the objects of its sets are compared
abbrev pub database_of : Ledger → Database
database_of l = record { dbid = l.base.dbid; files = l.files }
