-- Which fault a failed call makes of the opening of a site.
use Rattle.std.specs.Prelude.{List}
use Rattle.rm_catalog.specs.{Faults.{IsBadRow}, declared.{catalog.CatalogFault.{CatalogFault}, keeper.KeeperFail.{KeeperFail}}}
use Rattle.rm_catalog.specs.declared.record.Record.{Record}
use Rattle.rm_catalog.specs.declared.catalog.CatalogFault.TheVariants as catalog
use Rattle.rm_catalog.specs.declared.keeper.KeeperFail.TheVariants as keeper
use Rattle.rm_evidence.specs.declared.gathering.EvidenceFault.{EvidenceFault}
use Rattle.rm_evidence.specs.declared.gathering.EvidenceFault.TheVariants as evidence
use Rattle.rm_site.specs.{Opens.{AreValid}, declared.open.OpenFault.{OpenFault, TheVariants.{BadRow, StoreFault, KeeperFault, NoMemory}}}

-- a fault of the keeper, or no memory
abbrev pub fault_of : KeeperFail → OpenFault
fault_of keeper.Failed = KeeperFault
fault_of keeper.NoMemory = NoMemory

-- a record that breaks a rule, or no memory
abbrev pub fault_at : CatalogFault → OpenFault
fault_at (catalog.BadRow kind id) = BadRow kind id
fault_at catalog.NoMemory = NoMemory

-- a fault of the store in loading, or no memory
abbrev pub fault_in : EvidenceFault → OpenFault
fault_in evidence.StoreFault = StoreFault
fault_in evidence.NoMemory = NoMemory

-- where a record is told, it is the first of these, in order, that breaks a rule; the store fails only where there is none
abbrev pub IsBadFirst : OpenFault → List Record → Type 0
IsBadFirst (BadRow kind id) rs = IsBadRow rs (catalog.BadRow kind id)
IsBadFirst StoreFault rs = AreValid rs
IsBadFirst KeeperFault rs = Unit {0}
IsBadFirst NoMemory rs = Unit {0}
