-- What the table has of the edits that were made.
use Rattle.std.specs.Prelude.{◌≡◌, ◌⊎◌, ◌<◌, ◌^◌, ℕ, pos, Bool, List, [], ◌∷◌, ◌++◌, map, drop, filter, IsPermutation}
use Rattle.sqlite_value.specs.{Order.{Row, column}, declared.value.Value.TheVariants.{Int, Blob}}
use Rattle.sqlite_rules.specs.Lists.{Has}
use Rattle.sqlite.specs.Effect.{Database}
use Rattle.rm_catalog.specs.{Keys.{key_of}, declared.record.{Record.{Record}, Edit.{Edit, TheVariants.{Put, Drop}}}}
use Rattle.rm_catalog_bytes.specs.{Spelling.{body_of}, Fits.{Fits}}
use Rattle.rm_keeper_sql.specs.{Tables.{no_schema, record_schema}, Entries.{is_number, IsKeyed}, Shelves.{numbered, records_at}}

-- what a row has of a record: the kind, the id, and the bytes of the other fields
abbrev pub row_of : Record → Row
row_of r = Int (pos (key_of r).kind) ∷ Int (pos (key_of r).id) ∷ Blob (body_of r) ∷ []

-- the row is of this number
abbrev pub is_of : ℕ → Row → Bool
is_of n row = is_number n (column row 1)

-- the rows of one number, without their rowids and the number
abbrev pub rows_at : ℕ → List Row → List Row
rows_at n rows = map (drop 2) (filter (is_of n) rows)

-- the numbers of a record fit their types
abbrev pub IsTyped : Record → Type 0
IsTyped r = ((key_of r).id < 2 ^ 32) × Fits r

-- and so do those of an edit
abbrev pub IsTypedEdit : Edit → Type 0
IsTypedEdit (Put r) = IsTyped r
IsTypedEdit (Drop key) = key.id < 2 ^ 32

-- the rows of each number are its records after all edits, in some order
pub record Tells (es : List (ℕ × Edit)) (rows : List Row) : Type 0 where
  pub keyed : IsKeyed rows
  pub typed : (n : ℕ) (r : Record) → Has (records_at n es) r → IsTyped r
  pub each : (n : ℕ) → IsPermutation (map row_of (records_at n es)) (rows_at n rows)

-- nothing was edited and there is no table, or the table tells
abbrev pub Holds : List (ℕ × Edit) → Database → Type 0
Holds es db = ((db.schema ≡ no_schema) × (es ≡ [])) ⊎ ((db.schema ≡ record_schema) × Tells es (db.trees 0))

-- Whatever edits the one database holds, the other holds these too, which are of one number.
abbrev pub Takes : ℕ → List Edit → Database → Database → Type 0
Takes n edits before after = (es : List (ℕ × Edit)) → Holds es before → Holds (es ++ numbered n edits) after

-- Whatever edits the database holds, these are the records of the number after them.
abbrev pub Reads : ℕ → List Record → Database → Type 0
Reads n rs db = (es : List (ℕ × Edit)) → Holds es db → IsPermutation (records_at n es) rs

-- Where the database has the table alone, of rows that are entries: the rows of the number are those of these records, so each of them
-- spells a record.
abbrev pub Lists : ℕ → List Record → Database → Type 0
Lists n rs db = db.schema ≡ record_schema → IsKeyed (db.trees 0) → IsPermutation (rows_at n (db.trees 0)) (map row_of rs)
