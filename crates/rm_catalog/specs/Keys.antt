-- The key of a record, the order of keys, and the record that stands under a key.
use Rattle.std.specs.Prelude.{ℕ, ◌+◌, ◌*◌, ◌<◌, ◌==◌, false, AllPairs, List, [], ◌∷◌, Option, Some, None, IsSome, find, map, min, option_and_then}
use Rattle.std.specs.List.{flat_map, Sorted.{IsNonDecreasingBy}}
use Rattle.rm_catalog.specs.declared.record.{Key.{Key}, BaseEntry.{BaseEntry}, IncarnationEntry.{IncarnationEntry}}
use Rattle.rm_catalog.specs.declared.record.{DatafileEntry.{DatafileEntry}, LogEntry.{LogEntry}, PieceEntry.{PieceEntry}}
use Rattle.rm_catalog.specs.declared.record.{MarkEntry.{MarkEntry}, PartEntry.{PartEntry}, HeadEntry.{HeadEntry}, SetEntry.{SetEntry}}
use Rattle.rm_catalog.specs.declared.record.{SetPart.{SetPart}, SwitchEntry.{SwitchEntry}, Record.{Record}}
use Rattle.rm_catalog.specs.declared.record.Record.TheVariants.{Base, Incarnation, Datafile, Log, Piece, Mark, Part, Head, Set, Switch}

-- the key of a record
abbrev pub key_of : Record → Key
key_of (Base r) = record { kind = 1; id = 0 }
key_of (Incarnation r) = record { kind = 2; id = r.inc }
key_of (Datafile r) = record { kind = 3; id = r.file }
key_of (Log r) = record { kind = 4; id = r.id }
key_of (Piece r) = record { kind = 5; id = r.id }
key_of (Mark r) = record { kind = 6; id = r.id }
key_of (Part r) = record { kind = 7; id = r.id }
key_of (Head r) = record { kind = 8; id = 0 }
key_of (Set r) = record { kind = 9; id = r.id }
key_of (Switch r) = record { kind = 10; id = r.id }

-- the kind of a record
abbrev pub kind_of : Record → ℕ
kind_of r = (key_of r).kind

-- The place of a key: kind * 2^32 + id. Ids are at most 2^32 - 1, so keys stand in order of kind and
-- then of id as their places do. A greater number, which is no id, stands where the last id does.
abbrev pub place : ℕ → ℕ → ℕ
place kind id = kind * 4294967296 + min id 4294967295

-- the place of a key
abbrev pub place_of_key : Key → ℕ
place_of_key k = place k.kind k.id

-- the place of a record
abbrev pub place_of : Record → ℕ
place_of r = place_of_key (key_of r)

-- the records ascend by kind and then id
abbrev pub InOrder : List Record → Type 0
InOrder rs = IsNonDecreasingBy place_of rs

-- they ascend so, and each key is there once
abbrev pub Ascends : List Record → Type 0
Ascends rs = AllPairs (λ a b. place_of a < place_of b) rs

-- the record at a place
abbrev pub at : ℕ → List Record → Option Record
at p rs = find (λ r. place_of r == p) rs

-- there is a record of this kind and id
abbrev pub IsThere : ℕ → ℕ → List Record → Type 0
IsThere kind id rs = IsSome (at (place kind id) rs)

-- what a record of kind 1 says
abbrev pub base_in : Record → Option BaseEntry
base_in (Base b) = Some b
base_in _ = None

-- what a record of kind 2 says
abbrev pub incarnation_in : Record → Option IncarnationEntry
incarnation_in (Incarnation i) = Some i
incarnation_in _ = None

-- what a record of kind 3 says
abbrev pub datafile_in : Record → Option DatafileEntry
datafile_in (Datafile f) = Some f
datafile_in _ = None

-- what a record of kind 6 says
abbrev pub mark_in : Record → Option MarkEntry
mark_in (Mark m) = Some m
mark_in _ = None

-- what a record of kind 10 says
abbrev pub switch_in : Record → Option SwitchEntry
switch_in (Switch x) = Some x
switch_in _ = None

-- what records of kind 4, 5, 7, 8 and 9 say
abbrev pub log_in : Record → Option LogEntry
log_in (Log e) = Some e
log_in _ = None

abbrev pub piece_in : Record → Option PieceEntry
piece_in (Piece e) = Some e
piece_in _ = None

abbrev pub part_in : Record → Option PartEntry
part_in (Part e) = Some e
part_in _ = None

abbrev pub head_in : Record → Option HeadEntry
head_in (Head e) = Some e
head_in _ = None

abbrev pub set_in : Record → Option SetEntry
set_in (Set e) = Some e
set_in _ = None

-- what a set has of one datafile, as a backup with the set's id, object, status and tag
abbrev pub part_piece : SetEntry → SetPart → PieceEntry
part_piece e p = record {
  id = e.id;
  copy = false;
  kind = p.kind;
  inc = e.inc;
  file = p.file;
  from = p.from;
  checkpoint = e.checkpoint;
  high = p.high;
  rows = p.rows;
  size = e.size;
  sha = e.sha;
  status = e.status;
  keep = e.keep;
  tag = e.tag;
  moment = e.moment;
}

-- the backups of datafiles of which a record tells: a piece or an image copy of itself, a set of its parts
abbrev pub backups_in : Record → List PieceEntry
backups_in (Piece e) = e ∷ []
backups_in (Set e) = map (part_piece e) e.parts
backups_in _ = []

-- those of all records
abbrev pub backups : List Record → List PieceEntry
backups rs = flat_map backups_in rs

-- the base facts
abbrev pub base : List Record → Option BaseEntry
base rs = option_and_then base_in (at (place 1 0) rs)

-- the incarnation of this number
abbrev pub incarnation : ℕ → List Record → Option IncarnationEntry
incarnation inc rs = option_and_then incarnation_in (at (place 2 inc) rs)

-- the datafile of this number
abbrev pub datafile : ℕ → List Record → Option DatafileEntry
datafile file rs = option_and_then datafile_in (at (place 3 file) rs)

-- the mark of this number
abbrev pub mark : ℕ → List Record → Option MarkEntry
mark n rs = option_and_then mark_in (at (place 6 n) rs)

-- the switch of this number
abbrev pub switch : ℕ → List Record → Option SwitchEntry
switch n rs = option_and_then switch_in (at (place 10 n) rs)
