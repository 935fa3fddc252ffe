-- The records of a database and of its saved site, told kind by kind.
use Rattle.std.specs.Prelude.{List, [], ◌∷◌, ◌++◌, Option, None, Some, map}
use Rattle.rm_catalog.specs.declared.record.{HeadEntry.{HeadEntry}, PartEntry.{PartEntry}, Record.{Record}}
use Rattle.rm_catalog.specs.declared.record.Record.TheVariants as kind
use Rattle.rm_catalog_typed.specs.Ledger.{Ledger, front_records, back_records}

-- a saved site
pub record Saved : Type 0 where
  -- by ascending id
  pub parts : List PartEntry
  pub head : HeadEntry

pub record TypedCatalog : Type 0 where
  pub ledger : Ledger
  pub saved : Option Saved

-- the records of a saved site, if there is one
abbrev pub saved_records : Option Saved → List Record
saved_records None = []
saved_records (Some s) = map kind.Part s.parts ++ kind.Head s.head ∷ []

-- all records, ascending by kind and then id
abbrev pub records_of : TypedCatalog → List Record
records_of r = front_records r.ledger ++ saved_records r.saved ++ back_records r.ledger

-- those of a database, if there is one
abbrev pub all_records : Option TypedCatalog → List Record
all_records None = []
all_records (Some r) = records_of r
