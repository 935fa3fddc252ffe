-- What opening a site answers.
use Rattle.std.specs.Prelude.{◌≡◌, Option, List, IfSome}
use Rattle.rm_base.specs.Store.{Held}
use Rattle.rm_catalog.specs.{Rules.{IsOrderOf, IsValid}, declared.record.Record.{Record}}
use Rattle.rm_machine.specs.{Loading.{IsLoaded}, Machine.{Machine}, Rest.{PartsTell, Rest, Wakes}}
use Rattle.rm_machine_laws.specs.Holds.{Holds, HoldsRest, Stands, View, records_in}

-- the records are valid, in order
abbrev pub AreValid : List Record → Type 0
AreValid rs = (s : List Record) × IsOrderOf s rs × IsValid s

-- Whatever database at rest the store and the keeper hold: where digests tell of its saved site it wakes, and the site stands
-- for the machine.
abbrev pub Opens : Option Held → Option (List Record) → View → Type 0
Opens held kept v = (r : Rest) → HoldsRest held kept r → PartsTell r → (m : Machine) × Wakes r m × Stands v m × Holds held kept m

-- Whatever they hold: the site shows the database of the keeper's records, which ascend, or none without any, and what runs is what is
-- loaded of the store's objects.
pub record Shows (held : Option Held) (kept : Option (List Record)) (v : View) : Type 0 where
  pub records : IfSome kept (IsOrderOf (records_in v.state))
  pub same : IfSome kept (λ rs. rs ≡ records_in v.state)
  pub loaded : IfSome held (λ h. IfSome v.state (IsLoaded h))
