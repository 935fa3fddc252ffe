-- CATALOG 'name': an object of which no record tells gets one
use Rattle.std.specs.Prelude.{ℕ, ◌≡◌, ◌⊎◌, ◌+◌, ◌-◌, ◌<◌, ◌≤◌, max, if◌then◌else◌, Bool, true, false, Option, Some, None, MatchOption, List, [], ◌∷◌, codes, length, slice_get}
use Rattle.std.specs.Option.{option_map_or}
use Rattle.rm_base.specs.{Store.{Held}, declared.refusal.{Limit.TheVariants.{Records, Bytes, ObjectIds}, Refusal.{Refusal}}}
use Rattle.rm_base.specs.declared.refusal.{Refusal.TheVariants.{Rm11, Rm12, Rm13}, Unknown.TheVariants.{Object}}
use Rattle.rm_history.specs.{Tree.{end_of}, declared.world.Datafile.{Datafile}}
use Rattle.rm_evidence.specs.{Names.{log_name, piece_name}, Objects.{piece_entry}}
use Rattle.rm_piece.specs.declared.piece.Piece.{Piece}
use Rattle.rm_redo.specs.declared.log_file.LogFile.{LogFile}
use Rattle.rm_report.specs.declared.line.Line.TheVariants.{Catalogued}
use Rattle.rm_catalog_typed.specs.{Changes.{with_base, with_end_at, with_log, with_piece}, LedgerFacts.{IsLogEntry, IsPieceEntry}}
use Rattle.rm_catalog_typed.specs.TypedCatalog.{TypedCatalog}
use Rattle.rm_machine.specs.{Effect.{Artefact, Effect, Outcome, a_log, a_piece, done, no_effect, refused}, Machine.{IsValidArtefact}}
use Rattle.rm_machine.specs.{Marks.{lacks_bytes, lacks_ids, lacks_room}, Saved.{spelling_of}, State.{ledger, tree}}
use Rattle.rm_machine.specs.{SwitchLogfile.{log_entry}, Upkeep.{is_unknown, with_catalog}, declared.state.State.{State}}

-- The names of objects

-- the name is one of a log, a piece or an image copy of this id
pub record IsNamed (name : List ℕ) (id : ℕ) : Type 0 where
  pub number : (1 ≤ id) × (id < 4294967295)
  pub is : (name ≡ log_name id) ⊎ (name ≡ piece_name false id) ⊎ (name ≡ piece_name true id)

-- the id that a name tells, 0 where it is of no such form
pub data TellsId (name : List ℕ) : ℕ → Type 0 where
  an_id : (id : ℕ) → IsNamed name id → TellsId name id
  no_id : ((id : ℕ) → ¬ IsNamed name id) → TellsId name 0

-- What stands under a name

-- a log of this id, or a piece or else an image copy of it
pub data Found : Type 0 where
  found_log : ℕ → LogFile → Found
  found_piece : Bool → ℕ → Piece → Found

abbrev pub id_of : Found → ℕ
id_of (found_log id a) = id
id_of (found_piece copy id a) = id

abbrev pub name_of : Found → List ℕ
name_of (found_log id a) = log_name id
name_of (found_piece copy id a) = piece_name copy id

abbrev pub artefact_of : Found → Artefact
artefact_of (found_log id a) = a_log a
artefact_of (found_piece copy id a) = a_piece a

-- the database and the incarnation that it is of, and the SCN up to which it tells
abbrev pub dbid_of : Found → ℕ
dbid_of (found_log id a) = a.dbid
dbid_of (found_piece copy id a) = a.dbid

abbrev pub inc_of : Found → ℕ
inc_of (found_log id a) = a.inc
inc_of (found_piece copy id a) = a.inc

abbrev pub top_of : Found → ℕ
top_of (found_log id a) = a.next
top_of (found_piece copy id a) = a.high

-- What is catalogued

-- so many ids lie from the next one up to this one
abbrev pub ids_up_to : State → ℕ → ℕ
ids_up_to s id = (id + 1) - (ledger s).base.next_id

-- the catalog where no id up to its own is free, and where its incarnation ends no lower than it tells
abbrev pub raised : State → Found → TypedCatalog
raised s x =
    with_end_at (with_base s.catalog (record (ledger s).base { next_id = (ledger s).base.next_id + ids_up_to s (id_of x) }))
    (inc_of x) (max (end_of (tree s) (inc_of x)) (top_of x))

-- and with its record: a log counts as archived, and a piece has a tag of its own and the moment of the statement
abbrev pub catalogued : State → Found → TypedCatalog
catalogued s (found_log id a) = with_log (raised s (found_log id a)) (log_entry id a)
catalogued s (found_piece copy id a) = with_piece (raised s (found_piece copy id a)) (piece_entry copy false (codes "CATALOGUED") (ledger s).base.moment id a)

-- the record obeys the rules of records there; a datafile has as many blocks as its piece says
abbrev pub Obeys : State → Found → Type 0
Obeys s (found_log id a) = IsLogEntry (raised s (found_log id a)).ledger.tree (log_entry id a)
Obeys s (found_piece copy id a) =
    IsPieceEntry (raised s (found_piece copy id a)).ledger.tree (ledger s).files (piece_entry copy false (codes "CATALOGUED") (ledger s).base.moment id a)
    × ((d : Datafile) → slice_get (ledger s).files (a.file - 1) ≡ Some d → a.blocks ≡ d.blocks)

-- this stands under the name: its bytes are its spelling, it is of the database, and it can have a record
pub record IsFound (s : State) (held : Held) (name : List ℕ) (x : Found) : Type 0 where
  pub is : name ≡ name_of x
  pub number : (1 ≤ id_of x) × (id_of x < 4294967295)
  pub stands : held name ≡ Some (spelling_of (artefact_of x))
  pub valid : IsValidArtefact (artefact_of x)
  pub dbid : dbid_of x ≡ (ledger s).base.dbid
  pub obeys : Obeys s x

-- too few ids are left behind this one: a save may draw 68
abbrev pub lacks_ids_behind : State → ℕ → Bool
lacks_ids_behind s id = lacks_ids s (ids_up_to s id)

-- why it can't be catalogued: no record is left, no bytes, or no id; or its id has a record
abbrev pub catalog_refusal : State → List ℕ → Found → Option Refusal
catalog_refusal s name x =
    if is_unknown s.catalog (id_of x) then
    (if lacks_room s 1 then Some (Rm11 Records)
    else if lacks_bytes s (length (spelling_of (artefact_of x))) then Some (Rm11 Bytes)
    else if lacks_ids_behind s (id_of x) then Some (Rm11 ObjectIds)
    else None)
    else if lacks_ids_behind s (id_of x) then Some (Rm11 ObjectIds)
    else Some (Rm13 name)

-- it is recorded; the object stays as it is
abbrev pub cataloguing : Found → Effect
cataloguing x = record no_effect { made = record { name = name_of x; artefact = artefact_of x } ∷ [] }

abbrev pub catalogues : State → Found → Outcome
catalogues s x = done (Catalogued (id_of x) ∷ []) (cataloguing x) (with_catalog s (catalogued s x))

-- what comes of a name that tells this id, where this is found under it
abbrev pub catalog_by : State → List ℕ → ℕ → Option Found → Outcome
catalog_by s name id None = if lacks_ids_behind s id then refused (Rm11 ObjectIds) else refused (Rm12 (Object name))
catalog_by s name id (Some x) = option_map_or refused (catalog_refusal s name x) (catalogues s x)

-- By what the store has under the name. Records and bytes are looked at where one would come, ids for each name.
pub record IsCatalogOutcome (s : State) (held : Held) (name : List ℕ) (o : Outcome) : Type 0 where
  pub id : ℕ
  pub tells : TellsId name id
  pub found : Option Found
  pub finds : MatchOption found ((x : Found) → ¬ IsFound s held name x) (IsFound s held name)
  pub is : o ≡ catalog_by s name id found
