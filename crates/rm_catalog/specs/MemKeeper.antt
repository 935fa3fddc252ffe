-- A keeper in memory.
use Rattle.std.specs.Prelude.{ℕ, ◌+◌, Bool, true, false, List, Result, Ok, Err}
use Rattle.rm_base.specs.{Failing.{faults_of}, declared.memory.Failing.{Failing}}
use Rattle.rm_catalog.specs.declared.keeper.{KeeperFail.{KeeperFail, TheVariants.{Failed, NoMemory}}, MemKeeper.{MemKeeper}}
use Rattle.rm_catalog.specs.declared.record.Record.{Record}

-- the records that it keeps
abbrev pub kept_records : MemKeeper → List Record
kept_records k = k.records.items

-- its loads that are to fail
abbrev pub loads_of : MemKeeper → Failing
loads_of k = k.loads

-- its applies that are to fail
abbrev pub applies_of : MemKeeper → Failing
applies_of k = k.applies

-- how many of its calls have failed
abbrev pub faults_in : MemKeeper → ℕ
faults_in k = faults_of (loads_of k) + faults_of (applies_of k)

-- the call failed, and not for want of memory
abbrev pub has_failed : {X : Type 0} → Result X KeeperFail → Bool
has_failed (Err Failed) = true
has_failed (Err NoMemory) = false
has_failed (Ok x) = false
