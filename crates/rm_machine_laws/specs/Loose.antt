-- Names of records are touched by no statement but one of HOST that gives them.
use Rattle.std.specs.Prelude.{ℕ, ◌≡◌, ◌<◌, Bool, true, IsSomeAnd, Option, Some, None, List, Contains}
use Rattle.rm_base.specs.Store.{Held}
use Rattle.rm_catalog.specs.declared.record.PartEntry.{PartEntry}
use Rattle.rm_catalog_typed.specs.TypedCatalog.{TypedCatalog}
use Rattle.rm_commit.specs.Names.{is_named, itself, name_of}
use Rattle.rm_lang_statement.specs.declared.command.Command.{Command}
use Rattle.rm_evidence.specs.Names.{log_name, piece_name, roll_name, set_name, site_name}
use Rattle.rm_report.specs.declared.line.Line.{Line}
use Rattle.rm_machine.specs.{Effect.{Effect, done}, Names.{IsObjectName}, Rest.{catalog_in}, Sound.{IsSound}, State.{ledger}}
use Rattle.rm_machine.specs.{Step.{IsOutcome, names_in}, declared.state.State.{State}}

-- the object of one of the records has this name: of a log, a piece or a set, or of a part of a saved site
pub data IsNamedBy (s : State) : List ℕ → Type 0 where
  of_object : (name : List ℕ) → IsObjectName (ledger s) name → IsNamedBy s name
  of_part : (p : PartEntry) → IsSomeAnd s.catalog.saved (λ site. Contains site.parts p) → IsNamedBy s (site_name p.id)

-- the same, where there is a database
abbrev pub IsNamedIn : Option State → List ℕ → Type 0
IsNamedIn None name = ⊥
IsNamedIn (Some s) name = IsNamedBy s name

-- the id was given: it lies below the next one
abbrev pub IsGivenIn : Option TypedCatalog → ℕ → Type 0
IsGivenIn None id = ⊥
IsGivenIn (Some r) id = id < r.ledger.base.next_id

-- the name is of an object of this id: of a log, a piece or an image copy, a set, or an increment
pub data IsOfId (id : ℕ) : List ℕ → Type 0 where
  is_log : IsOfId id (log_name id)
  is_piece : (copy : Bool) → IsOfId id (piece_name copy id)
  is_set : IsOfId id (set_name id)
  is_roll : IsOfId id (roll_name id)

-- the name is of an object of an id that was given
abbrev pub IsLowIn : Option State → List ℕ → Type 0
IsLowIn o name = (id : ℕ) × IsOfId id name × IsGivenIn (catalog_in o) id

-- What is put has no name of a record before, nor that of a part of a saved site, and its id is none that was given; what goes
-- has no name of a record after, nor that of an increment. The names that HOST gives are left aside.
pub record IsLoose (o : Option State) (c : Command) (e : Effect) (t : State) : Type 0 where
  pub puts : (name : List ℕ) → IsNamedIn o name → is_named name_of e.puts name ≡ true → Contains (names_in c) name
  pub low : (name : List ℕ) → IsLowIn o name → is_named name_of e.puts name ≡ true → Contains (names_in c) name
  pub parts : (id : ℕ) → is_named name_of e.puts (site_name id) ≡ true → Contains (names_in c) (site_name id)
  pub removes : (name : List ℕ) → IsNamedBy t name → is_named itself e.removes name ≡ true → Contains (names_in c) name
  pub rolls : (id : ℕ) → is_named itself e.removes (roll_name id) ≡ true → Contains (names_in c) (roll_name id)

-- so for the statement, from each sound state
abbrev pub StaysLoose : Command → Type 0
StaysLoose c =
    (s : State) (held : Held) (lines : List Line) (e : Effect) (t : State) → IsSound s → IsOutcome s held c (done lines e t) → IsLoose (Some s) c e t
