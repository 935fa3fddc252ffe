-- What one record after the other adds to the evidence.
use Rattle.std.specs.Prelude.{◌≡◌, ◌↔◌, ◌<◌, ◌^◌, ℕ, List, [], ◌∷◌, ◌++◌, Contains, AllPairs, Option, Some, Result, Ok, Err}
use Rattle.std.specs.Option.{option_map_or}
use Rattle.rm_base.specs.{Store.{Held}, declared.kinds.{Bad.{Bad}, Kind.{Kind, TheVariants.{Level1}}}}
use Rattle.rm_catalog.specs.declared.record.Record.{Record}
use Rattle.rm_catalog.specs.declared.record.Record.TheVariants as kind
use Rattle.rm_evidence.specs.{Available.{IsBad, IsSkippedAmong}, Database.{Database}}
use Rattle.rm_evidence.specs.{Gathered.{ById, ByIdAndFile, IsBaseAmong, IsLevel1Among, IsLogOf}, Names.{object_id}}
use Rattle.rm_evidence.specs.declared.evidence.Evidence.{Evidence}
use Rattle.rm_history.specs.{Tree.{IsThere}, declared.tree.Incarnation.{Incarnation}}
use Rattle.rm_piece.specs.declared.piece.Piece.{Piece}
use Rattle.rm_redo.specs.declared.log_file.LogFile.{LogFile}

-- what stands under a name spells this artefact, or it is bad
abbrev pub IsTold : {A : Type 0} → (List ℕ → A → Type 0) → Option (List ℕ) → Result A Bad → Type 0
IsTold Is stands (Ok a) = (bytes : List ℕ) × (stands ≡ Some bytes) × Is bytes a
IsTold {A} Is stands (Err bad) = IsBad (λ bytes. (a : A) × Is bytes a) stands bad

-- these and the record with its id, where it is one of an object
abbrev pub with_object : List (ℕ × Record) → Record → List (ℕ × Record)
with_object objects r = option_map_or (λ id. objects ++ (id, r) ∷ []) (object_id r) objects

-- exactly the records of objects among these, each with its id, ascending by id
pub record AreObjects (rs : List Record) (objects : List (ℕ × Record)) : Type 0 where
  pub ascends : AllPairs (λ x y. x.0 < y.0) objects
  pub exact : (id : ℕ) (r : Record) → Contains objects (id, r) ↔ (Contains rs r × (object_id r ≡ Some id))

-- `new` is `old`, and then exactly what Is, in this order
pub record Extends (A : Type 0) (Before : ℕ × A → ℕ × A → Type 0) (old : List (ℕ × A)) (Is : ℕ → A → Type 0) (new : List (ℕ × A)) : Type 0 where
  pub rest : List (ℕ × A)
  pub list : new ≡ old ++ rest
  pub related : AllPairs Before rest
  pub exact : (id : ℕ) (a : A) → Contains rest (id, a) ↔ Is id a

-- the evidence grew by exactly what these records of a database tell
pub record Adds (held : Held) (base : Database) (rs : List Record) (old new : Evidence) : Type 0 where
  pub bases : Extends Piece ByIdAndFile old.bases (IsBaseAmong held base rs) new.bases
  pub level1s : Extends Piece ByIdAndFile old.level1s (IsLevel1Among held base rs) new.level1s
  pub logs : Extends LogFile ById old.logs (IsLogOf held rs) new.logs
  pub skipped : Extends Bad ById old.skipped (IsSkippedAmong held base rs) new.skipped

-- a piece more, among those of its kind
abbrev pub with_piece_of : Kind → Evidence → ℕ → Piece → Evidence
with_piece_of Level1 e id a = record e { level1s = e.level1s ++ (id, a) ∷ [] }
with_piece_of _ e id a = record e { bases = e.bases ++ (id, a) ∷ [] }

abbrev pub with_piece : Evidence → ℕ → Piece → Evidence
with_piece e id a = with_piece_of a.kind e id a

-- these pieces more, one after the other
abbrev pub with_pieces : Evidence → ℕ → List Piece → Evidence
with_pieces e id [] = e
with_pieces e id (a ∷ rest) = with_pieces (with_piece e id a) id rest

-- the incarnation of a log, a piece or a set is there
abbrev pub HasIncarnation : List Incarnation → Record → Type 0
HasIncarnation tree (kind.Log l) = IsThere tree l.inc
HasIncarnation tree (kind.Piece p) = IsThere tree p.inc
HasIncarnation tree (kind.Set e) = IsThere tree e.inc
HasIncarnation tree _ = Unit {0}

-- the id of a log, a piece or a set is one of four bytes
abbrev pub HasId : Record → Type 0
HasId (kind.Log l) = l.id < 2 ^ 32
HasId (kind.Piece p) = p.id < 2 ^ 32
HasId (kind.Set e) = e.id < 2 ^ 32
HasId _ = Unit {0}
