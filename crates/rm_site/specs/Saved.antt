-- What a save of this database leaves.
use Rattle.std.specs.Prelude.{◌≡◌, ◌⊎◌, ◌&&◌, not, is_none, Bool, MatchBool, true, Option, Some, None, List, []}
use Rattle.rm_base.specs.Store.{Held, Both}
use Rattle.rm_catalog.specs.declared.record.Record.{Record}
use Rattle.rm_catalog_typed.specs.TypedCatalog.{records_of}
use Rattle.rm_commit.specs.Names.{HasPuts}
use Rattle.rm_machine.specs.{Damage.{without_damaged}, Machine.{Machine}, Marks.{lacks_ids}}
use Rattle.rm_machine.specs.{Saving.{object_of, parts_of, with_ids, with_site}, State.{ledger}, Rest.{Rest}, declared.state.State.{State}}
use Rattle.rm_machine_laws.specs.{Holds.{Holds, HoldsRest, records_in}, Saves.{IsEnded}, Stopped.{IsLeft}}
use Rattle.rm_site.specs.Untouched.{AreSame}

-- whatever machine it is of, where a list was applied
abbrev pub SavesAt : Option Held → Option (List Record) → State → Option Held → Option (List Record) → Type 0
SavesAt held kept s held' kept' = (m : Machine) → m.state ≡ Some s → Holds held kept m → (r : Rest) × IsEnded true m r × HoldsRest held' kept' r

-- and where that was stopped
abbrev pub StopsSavingAt : Option Held → Option (List Record) → State → Option Held → Option (List Record) → Type 0
StopsSavingAt held kept s held' kept' =
    (m : Machine) → m.state ≡ Some s → Holds held kept m → (r : Rest) × (IsLeft [] m r ⊎ IsEnded true m r) × HoldsRest held' kept' r

-- What a save of this database leaves, whether or not a machine stands behind what the store and the keeper hold: where the store tells what
-- it holds, the objects of the parts were put and nothing else changed. And where the keeper tells the records of the database, it then has
-- those of the one with the saved site.
pub record PutsSite (held : Option Held) (kept : Option (List Record)) (s : State) (held' : Option Held) (kept' : Option (List Record)) : Type 0 where
  pub store : Both (HasPuts (with_ids object_of (ledger s).base.next_id (parts_of (without_damaged s)))) held held'
  pub keeper : kept ≡ Some (records_in (Some s)) → kept' ≡ Some (records_of (with_site (without_damaged s)))

-- a site is saved where there is a database, none is saved, and the ids of a save are left
abbrev pub PutsWhat : Option Held → Option (List Record) → Option State → Option Held → Option (List Record) → Type 0
PutsWhat held kept None held' kept' = AreSame held kept held' kept'
PutsWhat held kept (Some s) held' kept' = MatchBool (is_none s.catalog.saved && not (lacks_ids s 0)) (PutsSite held kept s held' kept') (AreSame held kept held' kept')

-- How a session ends over this database, whatever the store and the keeper hold: one that applied a list saves the site, and one that
-- applied none leaves all as it was.
abbrev pub EndsOut : Bool → Option Held → Option (List Record) → Option State → Option Held → Option (List Record) → Type 0
EndsOut applied held kept o held' kept' = MatchBool applied (PutsWhat held kept o held' kept') (AreSame held kept held' kept')
