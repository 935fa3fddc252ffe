-- A keeper over a table that tells what it accepted.
use Rattle.std.specs.Prelude.{ℕ, List}
use Rattle.sqlite_trees.specs.declared.store.Store.{Ghosts}
use Rattle.rm_catalog.specs.declared.record.{Record.{Record}, Edit.{Edit}}
use Rattle.rm_keeper_sql.specs.{Shelves.{records_at}, SqlKeeper.{faults_of, number_of}, declared.keeper.SqlKeeper.{SqlKeeper}}
use Rattle.rm_keeper_sql.specs.declared.told.ToldKeeper.{ToldKeeper}

-- all edits that were accepted, each with the number of its database
abbrev pub log_of : {S : Type 0} {g : Ghosts S} → ToldKeeper S g → List (ℕ × Edit)
log_of k = k.log.edits

-- the keeper over the table
abbrev pub keeper_of : {S : Type 0} {g : Ghosts S} → ToldKeeper S g → SqlKeeper S
keeper_of k = k.keeper

-- the records of each number after all edits that were accepted
abbrev pub shelved_by : {S : Type 0} {g : Ghosts S} → ToldKeeper S g → ℕ → List Record
shelved_by k n = records_at n k.log.edits

-- those of the number that is chosen
abbrev pub told_by : {S : Type 0} {g : Ghosts S} → ToldKeeper S g → List Record
told_by k = records_at (number_of k.keeper) k.log.edits

-- how often it has failed
abbrev pub faults_told : {S : Type 0} {g : Ghosts S} → ToldKeeper S g → ℕ
faults_told k = faults_of k.keeper
