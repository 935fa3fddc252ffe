-- An increment stands under its name, from its BACKUP on.
use Rattle.std.specs.Prelude.{ℕ, ◌≡◌, Option, Some}
use Rattle.rm_base.specs.Store.{Held}
use Rattle.rm_catalog_typed.specs.TypedCatalog.{TypedCatalog}
use Rattle.rm_evidence.specs.Names.{roll_name}
use Rattle.rm_piece.specs.{SetSpelling.{set_spelling}, declared.set.Set.{Set}}
use Rattle.rm_machine.specs.{Machine.{Machine}, Rest.{Rest, catalog_in}}
use Rattle.rm_machine_laws.specs.Loose.{IsGivenIn}

-- its id was given by the database with these records, and its object spells it
pub record IsUnder (o : Option TypedCatalog) (objects : Held) (id : ℕ) (a : Set) : Type 0 where
  pub given : IsGivenIn o id
  pub spelled : objects (roll_name id) ≡ Some (set_spelling a)

-- so of a machine, and of a database at rest
abbrev pub StandsIn : Machine → ℕ → Set → Type 0
StandsIn m id a = IsUnder (catalog_in m.state) m.objects id a

abbrev pub RestsIn : Rest → ℕ → Set → Type 0
RestsIn r id a = IsUnder r.catalog r.objects id a
