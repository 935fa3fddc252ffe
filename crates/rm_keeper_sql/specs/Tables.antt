-- The table of the catalog file, and the schema of a file that has it alone.
use Rattle.std.specs.Prelude.{◌≡◌, ◌⊎◌, ℕ, List, [], ◌∷◌, map, codes, Contains, None, true, false}
use Rattle.sqlite.specs.{Table.{Table}, Schema.{Schema}, Collation.TheVariants.{Binary}, Change.{created}}
use Rattle.sqlite.specs.declared.types.Value.TheVariants.{Null}
use Rattle.sqlite.specs.Kind.TheVariants as kind

-- a file with nothing in it
abbrev pub no_schema : Schema
no_schema = record { tables = []; indexes = []; views = [] }

-- the table, as its text defines it
abbrev pub record_table : Table
record_table = record {
  name = codes "record";
  tree = 0;
  columns = (record { name = codes "number"; kind = kind.Integer; is_strict = true; not_null = true; default = Null; collation = Binary })
      ∷ (record { name = codes "kind"; kind = kind.Integer; is_strict = true; not_null = true; default = Null; collation = Binary })
      ∷ (record { name = codes "id"; kind = kind.Integer; is_strict = true; not_null = true; default = Null; collation = Binary })
      ∷ (record { name = codes "body"; kind = kind.Blob; is_strict = true; not_null = true; default = Null; collation = Binary }) ∷ [];
  key = None;
  primary = 1 ∷ 2 ∷ 3 ∷ [];
  uniques = (1 ∷ 2 ∷ 3 ∷ []) ∷ [];
  orders = record { digits = 0 } ∷ [];
  checks = [];
  references = [];
  computed = [];
  stamps = record { places = []; terms = []; formats = [] };
  is_counted = false;
}

-- a file with the table alone, and the index of its key
abbrev pub record_schema : Schema
record_schema = created no_schema record_table

-- the names of its columns
abbrev pub column_names : List (List ℕ)
column_names = codes "number" ∷ codes "kind" ∷ codes "id" ∷ codes "body" ∷ []

-- a table of that name, with these columns
pub record IsRecord (t : Table) : Type 0 where
  pub name : t.name ≡ codes "record"
  pub columns : map (λ c. c.name) t.columns ≡ column_names

-- one of the tables is such a one
abbrev pub HasRecord : List Table → Type 0
HasRecord tables = (t : Table) × Contains tables t × IsRecord t

-- nothing is in the file yet, or the table is
abbrev pub IsOurs : Schema → Type 0
IsOurs s = (s ≡ no_schema) ⊎ HasRecord s.tables
