-- What the opening of a site comes to, for a call over it.
use Rattle.std.specs.{Prelude.{ℕ, ◌≡◌, Option, List, [], ◌∷◌, ◌++◌, codes, IfSome}, Fmt.{decimal}}
use Rattle.rm_base.specs.{Outside.{Appends, Rose}, Store.{Held}}
use Rattle.rm_catalog.specs.{Faults.{IsBadRow}, declared.catalog.CatalogFault.TheVariants.{BadRow}, declared.record.Key.{Key}}
use Rattle.rm_catalog.specs.declared.record.Record.{Record}
use Rattle.rm_machine.specs.{Machine.{Machine}, Rest.{PartsTell, Rest, Wakes}}
use Rattle.rm_tool_ends.specs.{Writing.{WritesFront}, declared.ended.Ended.{Ended}}
use Rattle.rm_tool_ends.specs.declared.ended.Ended.TheVariants as ended
use Rattle.rm_machine_laws.specs.Holds.{HoldsRest, View}
use Rattle.rm_site.specs.Opens.{AreValid, Opens, Shows}
use Rattle.rm_tool_opening.specs.declared.opening.Unopened.{Unopened}
use Rattle.rm_tool_opening.specs.declared.opening.Unopened.TheVariants as unopened

-- the line of status 9
abbrev pub bad_record : Key → List ℕ
bad_record key = codes "rman: bad record " ++ decimal key.kind ++ 32 ∷ decimal key.id ++ 10 ∷ []

-- the keeper's records are valid, where it tells them
abbrev pub TellsValid : Option (List Record) → Type 0
TellsValid kept = IfSome kept AreValid

-- Whatever database at rest the store and the keeper hold: where digests tell of its saved site it wakes, and this is so of
-- the machine.
abbrev pub FromRest : Option Held → Option (List Record) → (Machine → Type 0) → Type 0
FromRest held kept Is = (r : Rest) → HoldsRest held kept r → PartsTell r → (first : Machine) × Wakes r first × Is first

-- the line of the first of the keeper's records, in order, that breaks a rule, where it tells them
pub record IsBadRecord (kept : Option (List Record)) (line : List ℕ) : Type 0 where
  pub key : Key
  pub first : IfSome kept (λ rs. IsBadRow rs (BadRow key.kind key.id))
  pub is : line ≡ bad_record key

-- Status 9: the line of that record was written.
pub record WritesBadRecord (kept : Option (List Record)) (before now : Option (List ℕ)) : Type 0 where
  pub line : List ℕ
  pub bad : IsBadRecord kept line
  pub written : Appends before now line

-- a front of that line was written, not all of it
pub record BeginsBadRecord (kept : Option (List Record)) (before now : Option (List ℕ)) : Type 0 where
  pub line : List ℕ
  pub bad : IsBadRecord kept line
  pub written : WritesFront before now line

-- This is what a site shows that is opened over what a store holds and over these records, where they are told; and these are valid.
pub record IsSource (held : Option Held) (records : Option (List Record)) (v : View) : Type 0 where
  pub opens : Opens held records v
  pub shows : Shows held records v
  pub valid : TellsValid records

-- how a call ends whose site could not be opened
abbrev pub of_unopened : Unopened → Ended
of_unopened unopened.BadRecord = ended.BadRecord
of_unopened unopened.Sink = ended.Sink
of_unopened unopened.Store = ended.Store
of_unopened unopened.Keeper = ended.Keeper
of_unopened unopened.NoMemory = ended.NoMemory

-- what was written there; the store fails only where the records are valid
abbrev pub WritesUnopened : Option (List Record) → Option (List ℕ) → Option (List ℕ) → Unopened → Type 0
WritesUnopened records before now unopened.BadRecord = WritesBadRecord records before now
WritesUnopened records before now unopened.Sink = BeginsBadRecord records before now
WritesUnopened records before now unopened.Store = TellsValid records × (now ≡ before)
WritesUnopened records before now unopened.Keeper = now ≡ before
WritesUnopened records before now unopened.NoMemory = now ≡ before

-- whose count rose there: of the sink, the store and what keeps the records, before and now
abbrev pub RoseUnopened : ℕ → ℕ → ℕ → ℕ → ℕ → ℕ → Unopened → Type 0
RoseUnopened k k' d d' h h' unopened.BadRecord = Unit {0}
RoseUnopened k k' d d' h h' unopened.Sink = Rose k k'
RoseUnopened k k' d d' h h' unopened.Store = Rose d d'
RoseUnopened k k' d d' h h' unopened.Keeper = Rose h h'
RoseUnopened k k' d d' h h' unopened.NoMemory = Unit {0}
