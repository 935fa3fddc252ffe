-- The objects of a backup, each made of what was read for it.
use Rattle.std.specs.Prelude.{ℕ, Option, Some, None, List, [], ◌∷◌, length, map}
use Rattle.rm_base.specs.declared.block.Row.{Row}
use Rattle.rm_catalog.specs.declared.record.{PieceEntry.{PieceEntry}, SetEntry.{SetEntry}}
use Rattle.rm_catalog_typed.specs.{Changes.{with_new_piece, with_new_set}, Fitting.{FitsNewPiece, FitsNewSet}, Ledger.{Ledger}}
use Rattle.rm_commit.specs.declared.commit.Object.{Object}
use Rattle.rm_evidence.specs.Names.{piece_name, set_name}
use Rattle.rm_lang_statement.specs.declared.command.BackupForm.{BackupForm}
use Rattle.rm_machine.specs.{Backup.{grouped, is_copy}, MadeObjects.{Packed, alone, in_set}}
use Rattle.rm_machine.specs.{MadePieces.{Copied, entry_for, piece_by, told_alone}, MadeSets.{InSet, member_by, set_entry_for, set_of, told_member}}
use Rattle.rm_machine.specs.{State.{ledger}, declared.{job.Job.{Job}, state.State.{State}}}
use Rattle.rm_piece.specs.{SetSpelling.{set_spelling}, Sets.{IsSet}, Spelling.{spelling}, Valid.{IsPiece}}
use Rattle.rm_step_backup.specs.declared.making.{Entry.{Entry, TheVariants.{OfPiece, OfSet}}, Made.{Made}}
use Rattle.rm_step_backup.specs.declared.reading.{FileRead.{FileRead}, Read.{Read, TheVariants.{OfOne, OfSeveral}}}

-- What was read for each object

-- each datafile with its rows
abbrev pub files_of : List Job → List (List Row) → List FileRead
files_of [] rows = []
files_of (j ∷ js) [] = []
files_of (j ∷ js) (rs ∷ rows) = record { job = j; rows = rs } ∷ files_of js rows

-- each by itself, or n of them together
abbrev pub reads_by : Option ℕ → List FileRead → List Read
reads_by None files = map OfOne files
reads_by (Some n) files = map OfSeveral (grouped (Some n) files)

-- What is made of it

-- by the records, the piece of a datafile that was read, with this checkpoint
abbrev pub copied_of : Ledger → BackupForm → ℕ → FileRead → Copied
copied_of l b checkpoint r = record { copy = is_copy b r.job; piece = piece_by l b checkpoint r.job r.rows; reads = length r.rows }

-- the member of a set
abbrev pub member_of : Ledger → BackupForm → ℕ → FileRead → InSet
member_of l b checkpoint r = record { member = member_by l b checkpoint r.job r.rows; reads = length r.rows }

-- the object
abbrev pub packed_of : Ledger → BackupForm → ℕ → Read → Packed
packed_of l b checkpoint (OfOne r) = alone (copied_of l b checkpoint r)
packed_of l b checkpoint (OfSeveral rs) = in_set checkpoint (map (member_of l b checkpoint) rs)

-- it is valid
abbrev pub IsValid : State → Packed → Type 0
IsValid s (alone x) = IsPiece x.piece
IsValid s (in_set checkpoint xs) = IsSet (set_of (ledger s) checkpoint xs)

-- the object can be made
abbrev pub CanMake : State → BackupForm → ℕ → Read → Type 0
CanMake s b checkpoint r = IsValid s (packed_of (ledger s) b checkpoint r)

-- an object with its record and its bytes
abbrev pub made_of : State → BackupForm → List ℕ → Packed → Made
made_of s b tag (alone x) = record { entry = OfPiece (entry_for s b tag x.copy x.piece); told = told_alone x ∷ []; bytes = spelling x.piece }
made_of s b tag (in_set checkpoint xs) =
    record {
      entry = OfSet (set_entry_for s b tag (set_of (ledger s) checkpoint xs));
      told = map told_member xs;
      bytes = set_spelling (set_of (ledger s) checkpoint xs);
    }

-- that of what was read
abbrev pub made_by : State → BackupForm → List ℕ → ℕ → Read → Made
made_by s b tag checkpoint r = made_of s b tag (packed_of (ledger s) b checkpoint r)

-- Its recording

-- the record under the next id, with the moment
abbrev pub next_piece : State → PieceEntry → PieceEntry
next_piece s e = record e { id = (ledger s).base.next_id; moment = (ledger s).base.moment }

abbrev pub next_set : State → SetEntry → SetEntry
next_set s e = record e { id = (ledger s).base.next_id; moment = (ledger s).base.moment }

-- it fits
abbrev pub FitsNext : State → Entry → Type 0
FitsNext s (OfPiece e) = FitsNewPiece s.catalog (next_piece s e)
FitsNext s (OfSet e) = FitsNewSet s.catalog (next_set s e)

-- the database after it is recorded
abbrev pub after_entry : State → Entry → State
after_entry s (OfPiece e) = record s { catalog = with_new_piece s.catalog (next_piece s e) }
after_entry s (OfSet e) = record s { catalog = with_new_set s.catalog (next_set s e) }

-- the object under an id
abbrev pub name_under : ℕ → Entry → List ℕ
name_under id (OfPiece e) = piece_name e.copy id
name_under id (OfSet e) = set_name id

abbrev pub object_under : ℕ → Made → Object
object_under id m = record { name = name_under id m.entry; bytes = m.bytes }
