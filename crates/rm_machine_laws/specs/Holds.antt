-- What the store and the keeper hold of a machine, and what the site shows of it.
use Rattle.std.specs.{Prelude.{◌≡◌, Bool, Option, Some, None, List, []}, Option.{option_and_then}}
use Rattle.rm_base.specs.Store.{Held}
use Rattle.rm_catalog.specs.declared.record.Record.{Record}
use Rattle.rm_catalog_typed.specs.TypedCatalog.{Saved, all_records}
use Rattle.rm_machine.specs.{Machine.{Machine, IsSoundMachine}, Rest.{HaveParts, IsSoundRest, Rest, catalog_in}}
use Rattle.rm_machine.specs.declared.state.State.{State}

-- the records of the catalog, those of a saved site with them
abbrev pub records_in : Option State → List Record
records_in o = all_records (catalog_in o)

abbrev pub records : Machine → List Record
records m = records_in m.state

-- its saved site, if there is one
abbrev pub saved_in : Option State → Option Saved
saved_in o = option_and_then (λ s. s.catalog.saved) o

-- the store has the machine's objects, and the keeper its records; and the machine is sound, its saved site too
pub record Holds (held : Option Held) (kept : Option (List Record)) (m : Machine) : Type 0 where
  pub store : held ≡ Some m.objects
  pub keeper : kept ≡ Some (records m)
  pub sound : IsSoundMachine m
  pub parts : HaveParts m.objects m.made m.touched (saved_in m.state)

-- the same of a database at rest
pub record HoldsRest (held : Option Held) (kept : Option (List Record)) (r : Rest) : Type 0 where
  pub store : held ≡ Some r.objects
  pub keeper : kept ≡ Some (all_records r.catalog)
  pub sound : IsSoundRest r

-- before the first statement ever: no database, and nothing was ever written
abbrev pub nothing : Held → Rest
nothing objects = record { catalog = None; history = []; objects = objects; made = []; touched = [] }

-- what the site shows
pub record View : Type 0 where
  -- the database, where there is one
  pub state : Option State
  -- it was neither stopped nor saved
  pub live : Bool
  -- its session has applied a list of edits
  pub applied : Bool

-- the site stands for the machine, whose database it shows
abbrev pub Stands : View → Machine → Type 0
Stands v m = m.state ≡ v.state
