-- What a crosscheck makes of the records of a class.
use Rattle.std.specs.{Prelude.{◌≡◌, ℕ, Bool, if◌then◌else◌, List, Contains, Option, Some, None, is_some}, List.{list_any}}
use Rattle.std.specs.{Option.{option_map}, Str.{bytes_eq}}
use Rattle.rm_base.specs.{Store.{Held}, declared.kinds.{Class.{Class}, Status.{Status, TheVariants.{Available, Unavailable, Expired}}}}
use Rattle.rm_catalog.specs.declared.record.Record.{Record}
use Rattle.rm_verify.specs.Classes.{is_of, object_in}

-- UNAVAILABLE stays so; else it is AVAILABLE where an object stands under the name, and EXPIRED where none does
abbrev pub status_after : Status → Bool → Status
status_after Unavailable stands = Unavailable
status_after _ stands = if stands then Available else Expired

-- whether an object stands under the name in a store
abbrev pub stands_in : Held → List ℕ → Bool
stands_in held name = is_some (held name)

-- whether the name is one of these
abbrev pub is_among : List (List ℕ) → List ℕ → Bool
is_among names name = list_any (bytes_eq name) names

-- of a record of the class, its id and the status that it gets
abbrev pub checked : (List ℕ → Bool) → Class → Record → Option (ℕ × Status)
checked stands class r =
    if is_of class r then option_map (λ x. (x.id, status_after x.status (stands x.name))) (object_in r) else None

-- a record of the class has this id, and gets this status
abbrev pub IsChecked : (List ℕ → Bool) → List Record → Class → ℕ → Status → Type 0
IsChecked stands rs class id status = (r : Record) × Contains rs r × (checked stands class r ≡ Some (id, status))
