-- The expired records of a class, by their ids.
use Rattle.std.specs.{Prelude.{ℕ, if◌then◌else◌, Option, Some, None}, Option.{option_and_then}}
use Rattle.rm_base.specs.declared.kinds.{Class.{Class}, Status.{Status, TheVariants.{Expired}}}
use Rattle.rm_catalog.specs.declared.record.Record.{Record}
use Rattle.rm_verify.specs.Classes.{is_of, object_in}

-- beside an id that stands alone
abbrev pub Alone : Type 0
Alone = Unit {0}

-- the id, where it is that of an expired record
abbrev pub when_expired : ℕ → Status → Option (ℕ × Alone)
when_expired n Expired = Some (n, tt)
when_expired n _ = None

-- the id of the record, where it is expired and of the class
abbrev pub expired : Class → Record → Option (ℕ × Alone)
expired class r = if is_of class r then option_and_then (λ x. when_expired x.id x.status) (object_in r) else None
