-- The objects that a BACKUP makes of what was read of datafiles, and what their recording comes to.
use Rattle.std.specs.Prelude.{ℕ, ◌≤◌, ◌+◌, Option, Some, None, List, [], ◌∷◌, ◌++◌, All, length, map}
use Rattle.rm_base.specs.declared.block.Row.{Row}
use Rattle.rm_commit.specs.declared.commit.Object.{Object}
use Rattle.rm_catalog_typed.specs.{LedgerFacts.{IsPieceEntry, IsSetEntry}, Ledger.{Ledger, ledger_records}}
use Rattle.rm_piece.specs.{Sets.{IsSet}, Valid.{IsPiece}}
use Rattle.rm_report.specs.declared.line.Line.{Line}
use Rattle.rm_lang_statement.specs.declared.command.BackupForm.{BackupForm}
use Rattle.rm_machine.specs.{Backup.{grouped}, Effect.{Made}}
use Rattle.rm_machine.specs.MadePieces.{Copied, after_piece, copied, entry_for, line_for, made_for, object_for}
use Rattle.rm_machine.specs.MadeSets.{InSet, after_set, in_sets, member_line, set_entry_for, set_made, set_object, set_of}
use Rattle.rm_machine.specs.{State.{ledger, tree}, declared.{job.Job.{Job}, state.State.{State}}}

-- an object that is recorded: a piece or an image copy of one datafile, or a set of several with this checkpoint
pub data Packed : Type 0 where
  alone : Copied → Packed
  in_set : ℕ → List InSet → Packed

-- by the records, what becomes of these datafiles, of which these rows were read, with this checkpoint: each a piece or a copy, or n of
-- them a set
abbrev pub packed_by : Option ℕ → Ledger → BackupForm → ℕ → List Job → List (List Row) → List Packed
packed_by None l b checkpoint jobs rows = map alone (copied l b checkpoint jobs rows)
packed_by (Some n) l b checkpoint jobs rows = map (in_set checkpoint) (grouped (Some n) (in_sets l b checkpoint jobs rows))

abbrev pub packed : Ledger → BackupForm → ℕ → List Job → List (List Row) → List Packed
packed l b checkpoint jobs rows = packed_by b.files_per_set l b checkpoint jobs rows

-- the database after an object is recorded, with what is made, the object and its lines
abbrev pub after_object : State → BackupForm → List ℕ → Packed → State
after_object s b tag (alone x) = after_piece s b tag x.copy x.piece
after_object s b tag (in_set checkpoint xs) = after_set s b tag (set_of (ledger s) checkpoint xs)

abbrev pub object_made : State → Packed → Made
object_made s (alone x) = made_for s x.copy x.piece
object_made s (in_set checkpoint xs) = set_made s (set_of (ledger s) checkpoint xs)

abbrev pub object_put : State → Packed → Object
object_put s (alone x) = object_for s x.copy x.piece
object_put s (in_set checkpoint xs) = set_object s (set_of (ledger s) checkpoint xs)

abbrev pub lines_of : State → Packed → List Line
lines_of s (alone x) = line_for s x ∷ []
lines_of s (in_set checkpoint xs) = map (member_line s) xs

-- all of these, one after another
abbrev pub after_objects : State → BackupForm → List ℕ → List Packed → State
after_objects s b tag [] = s
after_objects s b tag (x ∷ xs) = after_objects (after_object s b tag x) b tag xs

abbrev pub objects_made : State → BackupForm → List ℕ → List Packed → List Made
objects_made s b tag [] = []
objects_made s b tag (x ∷ xs) = object_made s x ∷ objects_made (after_object s b tag x) b tag xs

abbrev pub objects_put : State → BackupForm → List ℕ → List Packed → List Object
objects_put s b tag [] = []
objects_put s b tag (x ∷ xs) = object_put s x ∷ objects_put (after_object s b tag x) b tag xs

abbrev pub object_lines : State → BackupForm → List ℕ → List Packed → List Line
object_lines s b tag [] = []
object_lines s b tag (x ∷ xs) = lines_of s x ++ object_lines (after_object s b tag x) b tag xs

-- the object is valid, and its record would be one of the database
abbrev pub IsRecordable : State → BackupForm → List ℕ → Packed → Type 0
IsRecordable s b tag (alone x) = IsPiece x.piece × IsPieceEntry (tree s) (ledger s).files (entry_for s b tag x.copy x.piece)
IsRecordable s b tag (in_set checkpoint xs) =
    IsSet (set_of (ledger s) checkpoint xs) × IsSetEntry (tree s) (ledger s).files (set_entry_for s b tag (set_of (ledger s) checkpoint xs))

-- the objects can be recorded: so can each, and there is room for all
pub record CanRecord (s : State) (b : BackupForm) (tag : List ℕ) (xs : List Packed) : Type 0 where
  pub each : All (IsRecordable s b tag) xs
  pub records : length (ledger_records (ledger s)) + length xs ≤ 65536
  pub ids : (ledger s).base.next_id + length xs + 68 ≤ 4294967295
