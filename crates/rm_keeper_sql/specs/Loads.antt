-- What a load reads of a connection: the records of the rows.
use Rattle.std.specs.Prelude.{◌≡◌, ℕ, pos, true, List, [], ◌∷◌, All, map}
use Rattle.sqlite_value.specs.{Order.{Row, column}, declared.value.Value.TheVariants.{Int}}
use Rattle.sqlite_trees.specs.declared.store.Store.{Ghosts}
use Rattle.sqlite.specs.{State.{Shown}, Held.{Held, state}}
use Rattle.rm_catalog.specs.declared.record.Record.{Record}
use Rattle.rm_catalog_bytes.specs.Fits.{Fits}
use Rattle.rm_keeper_sql.specs.{Texts.{select_text}, Table.{row_of}}

-- the three columns that are selected
abbrev pub columns : Row → Row
columns row = column row 0 ∷ column row 1 ∷ column row 2 ∷ []

-- each row is that of its record
pub record AreRows (records : List Record) (rows : List Row) : Type 0 where
  pub told : map columns rows ≡ map row_of records
  pub fit : All Fits records

-- the rows of a number are selected within a transaction
pub record Selects {S : Type 0} (g : Ghosts S) (n : ℕ) (rows : List Row) (old : Held S) : Type 0 where
  pub last : Held S
  pub shown : Shown select_text (Int (pos n) ∷ []) (state g (record old { in_transaction = true })) (state g last) rows
