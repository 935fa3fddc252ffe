-- What is read of a name and of the object under it, and the record that it gets.
use Rattle.std.specs.Prelude.{ℕ, ◌≡◌, ◌+◌, ◌-◌, ◌<◌, ◌≤◌, max, if◌then◌else◌, Bool, false, Option, Some, None, List, codes, slice_get}
use Rattle.rm_base.specs.{Numbers.{last_scn}, Store.{Held}, declared.kinds.Kind.{Kind, TheVariants.{Full, Level0, Level1, Place}}}
use Rattle.rm_base.specs.declared.refusal.{Limit.TheVariants.{Records, Bytes, ObjectIds}, Refusal.{Refusal, TheVariants.{Rm11, Rm13}}}
use Rattle.rm_catalog.specs.declared.record.BaseEntry.{BaseEntry}
use Rattle.rm_catalog_typed.specs.{Changes.{with_base, with_end_at, with_log, with_piece}, Fitting.{FitsBase, FitsLog, FitsPiece}}
use Rattle.rm_catalog_typed.specs.TypedCatalog.{TypedCatalog}
use Rattle.rm_evidence.specs.{Names.{log_name, piece_name}, Objects.{piece_entry}}
use Rattle.rm_history.specs.{Tree.{IsThere, end_of, owner, reset_of}, declared.world.Datafile.{Datafile}}
use Rattle.rm_machine.specs.CatalogName.{Found, IsFound, Obeys, artefact_of, dbid_of, found_log, found_piece, ids_up_to, lacks_ids_behind}
use Rattle.rm_machine.specs.{Machine.{IsValidArtefact}, Marks.{lacks_bytes, lacks_room}, Saved.{spelling_of}, State.{ledger, tree}}
use Rattle.rm_machine.specs.{SwitchLogfile.{log_entry}, Upkeep.{is_unknown}, declared.state.State.{State}}
use Rattle.rm_piece.specs.declared.piece.Piece.{Piece}
use Rattle.rm_redo.specs.declared.log_file.LogFile.{LogFile}
use Rattle.rm_step_upkeep.specs.declared.{finding.Entry.{Entry}, naming.Named.{Named}}
use Rattle.rm_step_upkeep.specs.declared.finding.Entry.TheVariants as entry
use Rattle.rm_step_upkeep.specs.declared.naming.Named.TheVariants as named

-- What a name is of

abbrev pub id_in : Named → ℕ
id_in (named.Log id) = id
id_in (named.Piece copy id) = id

abbrev pub name_by : Named → List ℕ
name_by (named.Log id) = log_name id
name_by (named.Piece copy id) = piece_name copy id

-- the name is of this, whose id is one of an object
pub record IsOf (name : List ℕ) (n : Named) : Type 0 where
  pub is : name ≡ name_by n
  pub number : (1 ≤ id_in n) × (id_in n < 4294967295)

-- what is found under a name is of this
abbrev pub named_of : Found → Named
named_of (found_log id a) = named.Log id
named_of (found_piece copy id a) = named.Piece copy id

-- What stands under it

-- the log is of the database, and of an incarnation that is there
pub record IsLogHere (s : State) (a : LogFile) : Type 0 where
  pub dbid : a.dbid ≡ (ledger s).base.dbid
  pub there : IsThere (tree s) a.inc
  pub range : (reset_of (tree s) a.inc ≤ a.first) × (a.first < a.next)

-- a level 1 is no image copy, and what stood in place is no backup
abbrev pub IsBackup : Kind → Bool → Type 0
IsBackup Full copy = Unit {0}
IsBackup Level0 copy = Unit {0}
IsBackup Level1 copy = copy ≡ false
IsBackup Place copy = ⊥

-- the datafile was created on the piece's path, and has as many blocks as the piece says
pub record IsOfDatafile (s : State) (d : Datafile) (a : Piece) : Type 0 where
  pub there : IsThere (tree s) a.inc
  pub path : owner (tree s) a.inc d.creation ≡ d.inc
  pub blocks : a.blocks ≡ d.blocks

-- the piece is of the database, and of a datafile that is there
pub record IsPieceHere (s : State) (copy : Bool) (a : Piece) : Type 0 where
  pub dbid : a.dbid ≡ (ledger s).base.dbid
  pub datafile : Datafile
  pub is : slice_get (ledger s).files (a.file - 1) ≡ Some datafile
  pub of : IsOfDatafile s datafile a
  pub kind : IsBackup a.kind copy

-- the bytes are its spelling, it is of the database, and it can have a record
pub record IsReadAs (s : State) (bytes : List ℕ) (x : Found) : Type 0 where
  pub spelled : bytes ≡ spelling_of (artefact_of x)
  pub valid : IsValidArtefact (artefact_of x)
  pub dbid : dbid_of x ≡ (ledger s).base.dbid
  pub obeys : Obeys s x

-- the record that it gets
abbrev pub entry_of : State → Found → Entry
entry_of s (found_log id a) = entry.Log (log_entry id a)
entry_of s (found_piece copy id a) = entry.Piece (piece_entry copy false (codes "CATALOGUED") (ledger s).base.moment id a)

-- the bytes are of this, and it gets this record
pub record IsEntryOf (s : State) (n : Named) (bytes : List ℕ) (e : Entry) : Type 0 where
  pub found : Found
  pub named : named_of found ≡ n
  pub read : IsReadAs s bytes found
  pub is : e ≡ entry_of s found

-- the record of what the bytes are, if they are anything that this name is of
abbrev pub ReadsAs : State → Named → List ℕ → Option Entry → Type 0
ReadsAs s n bytes None = (x : Found) → named_of x ≡ n → ¬ IsReadAs s bytes x
ReadsAs s n bytes (Some e) = IsEntryOf s n bytes e

-- This is found in some store, and gets this record. Where the store tells what it holds, it is found there.
pub record IsFoundAs (held : Option Held) (s : State) (name : List ℕ) (e : Entry) : Type 0 where
  pub found : Found
  pub is : e ≡ entry_of s found
  pub seen : Held
  pub there : IsFound s seen name found
  pub stands : (objects : Held) → held ≡ Some objects → IsFound s objects name found

-- the record of what is found, if anything is
abbrev pub Finds : Option Held → State → List ℕ → Option Entry → Type 0
Finds held s name None = (objects : Held) → held ≡ Some objects → (x : Found) → ¬ IsFound s objects name x
Finds held s name (Some e) = IsFoundAs held s name e

-- Its record

abbrev pub id_of : Entry → ℕ
id_of (entry.Log e) = e.id
id_of (entry.Piece p) = p.id

abbrev pub size_of : Entry → ℕ
size_of (entry.Log e) = e.size
size_of (entry.Piece p) = p.size

-- its incarnation, and the SCN up to which it tells
abbrev pub inc_of : Entry → ℕ
inc_of (entry.Log e) = e.inc
inc_of (entry.Piece p) = p.inc

abbrev pub top_of : Entry → ℕ
top_of (entry.Log e) = e.next
top_of (entry.Piece p) = p.high

-- why there is no room for an object of this size and id
abbrev pub room_refusal : State → ℕ → ℕ → Option Refusal
room_refusal s size id =
    if lacks_room s 1 then Some (Rm11 Records)
    else if lacks_bytes s size then Some (Rm11 Bytes)
    else if lacks_ids_behind s id then Some (Rm11 ObjectIds)
    else None

-- why it can't be catalogued
abbrev pub refusal_by : State → List ℕ → Entry → Option Refusal
refusal_by s name e =
    if is_unknown s.catalog (id_of e) then room_refusal s (size_of e) (id_of e)
    else if lacks_ids_behind s (id_of e) then Some (Rm11 ObjectIds)
    else Some (Rm13 name)

-- the base facts where no id up to its own is free
abbrev pub base_by : State → Entry → BaseEntry
base_by s e = record (ledger s).base { next_id = (ledger s).base.next_id + ids_up_to s (id_of e) }

-- the end of its incarnation, which is no lower than it tells
abbrev pub end_by : State → Entry → ℕ
end_by s e = max (end_of (tree s) (inc_of e)) (top_of e)

-- the catalog with both
abbrev pub raised_by : State → Entry → TypedCatalog
raised_by s e = with_end_at (with_base s.catalog (base_by s e)) (inc_of e) (end_by s e)

-- and with the record
abbrev pub recorded : State → Entry → TypedCatalog
recorded s (entry.Log e) = with_log (raised_by s (entry.Log e)) e
recorded s (entry.Piece p) = with_piece (raised_by s (entry.Piece p)) p

-- it fits there
abbrev pub FitsEntry : State → Entry → Type 0
FitsEntry s (entry.Log e) = FitsLog (raised_by s (entry.Log e)) e
FitsEntry s (entry.Piece p) = FitsPiece (raised_by s (entry.Piece p)) p

-- the base facts, the end and then the record fit
pub record CanBeRecorded (s : State) (e : Entry) : Type 0 where
  pub base : FitsBase s.catalog (base_by s e)
  pub there : IsThere (tree s) (inc_of e)
  pub end : end_by s e ≤ last_scn
  pub fits : FitsEntry s e
