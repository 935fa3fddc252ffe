-- Which stop a fault makes of a statement.
use Rattle.rm_commit.specs.declared.commit.Stop.{Stop}
use Rattle.rm_commit.specs.declared.commit.Stop.TheVariants as stop
use Rattle.rm_evidence.specs.declared.gathering.EvidenceFault.{EvidenceFault}
use Rattle.rm_evidence.specs.declared.gathering.EvidenceFault.TheVariants as evidence

-- a fault at what the store holds is one of the store, or no memory
abbrev pub stop_of : EvidenceFault → Stop
stop_of evidence.StoreFault = stop.StoreFault
stop_of evidence.NoMemory = stop.NoMemory
