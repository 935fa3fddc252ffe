-- What a failed call of the store makes of the gathering.
use Rattle.rm_base.specs.declared.store.StoreFail.{StoreFail, TheVariants.{Failed, NoMemory}}
use Rattle.rm_evidence.specs.declared.gathering.EvidenceFault.{EvidenceFault, TheVariants.{StoreFault, NoMemory as WithoutMemory}}

-- a fault of the store, or no memory
abbrev pub fault_of : StoreFail → EvidenceFault
fault_of Failed = StoreFault
fault_of NoMemory = WithoutMemory
