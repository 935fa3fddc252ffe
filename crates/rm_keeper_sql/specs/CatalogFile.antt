-- A keeper over a file, or in place of one.
use Rattle.std.specs.Prelude.{◌≡◌, ℕ, List, IsTrue}
use Rattle.sqlite.specs.State.{HasCleanDisk}
use Rattle.sqlite_trees.specs.declared.store.Store.{Ghosts}
use Rattle.rm_catalog.specs.{declared.record.{Record.{Record}, Edit.{Edit}}, declared.keeper.KeeperFail.{KeeperFail}}
use Rattle.rm_keeper_sql.specs.{Tables.{IsOurs}, Table.{Takes, Reads, Lists}, SqlKeeper.{state_of, faults_of, number_of}}
use Rattle.rm_keeper_sql.specs.declared.file.{Unopened.{Unopened}, CatalogFile.{CatalogFile, TheVariants.{Opened, NotOpened}}}

-- why each call of it fails
abbrev pub cause_of : Unopened → KeeperFail
cause_of u = u.cause

-- how often it has failed
abbrev pub faults_without : Unopened → ℕ
faults_without u = u.faults.times

-- how often it has failed
abbrev pub faults_in : {S : Type 0} → CatalogFile S → ℕ
faults_in (Opened k) = faults_of k
faults_in (NotOpened u) = faults_without u

-- the number whose records it loads and edits; 0 where no file is opened
abbrev pub number_in : {S : Type 0} → CatalogFile S → ℕ
number_in (Opened k) = number_of k
number_in (NotOpened u) = 0

-- where the disk gives back what was written, a connection that is open was so before
abbrev pub Shuts : {S : Type 0} → Ghosts S → CatalogFile S → CatalogFile S → Type 0
Shuts g (Opened old) (Opened new) = HasCleanDisk (state_of g new) → IsTrue (state_of g new).is_open → IsTrue (state_of g old).is_open
Shuts g (Opened old) (NotOpened u) = ⊥
Shuts g (NotOpened u) (Opened new) = ⊥
Shuts g (NotOpened u) (NotOpened v) = Unit {0}

-- A file that is opened stays so, and where the disk gives back what was written its table stays. One that is
-- not opened fails for the same cause.
abbrev pub Stays : {S : Type 0} → Ghosts S → CatalogFile S → CatalogFile S → Type 0
Stays g (Opened old) (Opened new) = HasCleanDisk (state_of g new) → IsTrue (state_of g new).is_open → (state_of g new).committed ≡ (state_of g old).committed
Stays g (Opened old) (NotOpened u) = ⊥
Stays g (NotOpened u) (Opened new) = ⊥
Stays g (NotOpened u) (NotOpened v) = cause_of v ≡ cause_of u

-- The file is opened and ours, and where the disk gives back what was written: whatever edits its table
-- holds, these are the records of the number after them, and its rows of the number are those of these records.
abbrev pub ReadsOf : {S : Type 0} → Ghosts S → ℕ → List Record → CatalogFile S → CatalogFile S → Type 0
ReadsOf g n rs (Opened old) (Opened new) =
    IsOurs (state_of g old).now.schema × (HasCleanDisk (state_of g new) → Reads n rs (state_of g old).committed × Lists n rs (state_of g old).committed)
ReadsOf g n rs (Opened old) (NotOpened u) = ⊥
ReadsOf g n rs (NotOpened u) new = ⊥

-- The file is opened and ours, and where the disk gives back what was written: whatever edits its table held,
-- it holds these too, which are of the number.
abbrev pub TakesOf : {S : Type 0} → Ghosts S → ℕ → List Edit → CatalogFile S → CatalogFile S → Type 0
TakesOf g n edits (Opened old) (Opened new) =
    IsOurs (state_of g old).now.schema × (HasCleanDisk (state_of g new) → Takes n edits (state_of g old).committed (state_of g new).committed)
TakesOf g n edits (Opened old) (NotOpened u) = ⊥
TakesOf g n edits (NotOpened u) new = ⊥
