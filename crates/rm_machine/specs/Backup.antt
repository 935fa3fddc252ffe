-- Which datafiles a BACKUP takes, where the backup of each begins, and of which kind it is.
use Rattle.std.specs.Prelude.{MatchBool, ℕ, zero, suc, ◌≡◌, ◌==◌, ◌&&◌, ◌||◌, ◌+◌, ◌*◌, not, if◌then◌else◌, is_none, Bool, true, false, Option, Some, None, List, [], ◌∷◌, Contains, drop, length, map, sum_by, take}
use Rattle.std.specs.{List.{find, list_any}, Option.{option_and_then, option_map, option_map_or}}
use Rattle.sha2.specs.Sha256.{sha256}
use Rattle.rm_base.specs.declared.{block.Row.{Row}, kinds.{Kind.{Kind}, Status.TheVariants.{Available}}}
use Rattle.rm_base.specs.declared.kinds.Kind.TheVariants as kind
use Rattle.rm_backup.specs.Parents.{IsParent}
use Rattle.rm_catalog.specs.declared.record.{SetEntry.{SetEntry}, SetPart.{SetPart}}
use Rattle.rm_lang_statement.specs.declared.command.BackupForm.{BackupForm}
use Rattle.rm_history.specs.{World.{exists, file_of}, declared.world.Datafile.{Datafile}}
use Rattle.rm_moments.specs.Text.{IsTag}
use Rattle.rm_piece.specs.{SetSpelling.{set_spelling, spelled}, Rows.{from_on}, declared.set.{Set.{Set}, SetFile.{SetFile}}}
use Rattle.rm_report.specs.declared.line.Line.{Line, TheVariants.{NothingToBackUp}}
use Rattle.rm_catalog_typed.specs.TypedCatalog.{records_of}
use Rattle.rm_machine.specs.{Marks.{set_bytes}, State.{ledger, world, current_of, now_of, on_path, placed}, Until.{or_else}}
use Rattle.rm_machine.specs.declared.{job.Job.{Job}, state.State.{State}}

-- it asks for the datafile of this number: it names it, or it names none and asks for all
abbrev pub asks_for : BackupForm → ℕ → Bool
asks_for b f = option_map_or (λ fs. list_any (λ n. n == f) fs) b.files true

-- the datafile of this number is backed up: it is on the current path, and it is asked for
abbrev pub is_taken : State → BackupForm → ℕ → Datafile → Bool
is_taken s b f d = exists (world s) (current_of s) (now_of s) d && asks_for b f

-- the numbers of the datafiles that are backed up, from f on
abbrev pub taken_from : State → BackupForm → ℕ → List Datafile → List ℕ
taken_from s b f [] = []
taken_from s b f (d ∷ ds) = if is_taken s b f d then f ∷ taken_from s b (f + 1) ds else taken_from s b (f + 1) ds

-- the datafiles that are backed up, ascending
abbrev pub taken : State → BackupForm → List ℕ
taken s b = taken_from s b 1 (ledger s).files

-- the first datafile that it names and that is not on the current path
abbrev pub absent : State → BackupForm → Option ℕ
absent s b = option_and_then (λ fs. find (λ f. is_none (on_path s f)) fs) b.files

-- the least datafile that it would back up and that is lost
abbrev pub lost_taken : State → BackupForm → Option ℕ
lost_taken s b = find (λ f. is_none (placed s f)) (taken s b)

-- the size of the piece of a datafile: 82 bytes, and 76 for each block
abbrev pub piece_bytes : State → ℕ → ℕ
piece_bytes s f = 82 + 76 * option_map_or (λ d. d.blocks) (file_of (world s) f) 0

-- the rows that stand in place of a datafile
abbrev pub rows_in : State → ℕ → List Row
rows_in s f = option_map_or (λ x. x.rows) (placed s f) []

-- it asks for a level 1
abbrev pub is_level1 : BackupForm → Bool
is_level1 b = option_map_or (λ n. not (n == 0)) b.level false

-- Where the backup of a datafile begins: a level 1 at the checkpoint of its parent, if it has one. A full backup, a level 0, and
-- a level 1 without a parent have all blocks.
pub record HasParent (s : State) (b : BackupForm) (f : ℕ) (from : Option ℕ) : Type 0 where
  pub parent : Option (ℕ × ℕ)
  pub is : IsParent (records_of s.catalog) f b.cumulative b.merge_tag parent
  pub begins : from ≡ option_map (λ p. p.1) parent

abbrev pub BeginsAt : State → BackupForm → ℕ → Option ℕ → Type 0
BeginsAt s b f from = MatchBool (is_level1 b) (HasParent s b f from) (from ≡ None)

-- what is made of the datafiles that are backed up, by the records before the first of them is
pub record AreJobs (s : State) (b : BackupForm) (jobs : List Job) : Type 0 where
  pub files : map (λ j. j.file) jobs ≡ taken s b
  pub begin : (j : Job) → Contains jobs j → BeginsAt s b j.file j.from

-- of a level 1 its kind is told by its parent; LEVEL 0, and LEVEL 1 without a parent, make a level 0
abbrev pub kind_by : BackupForm → Option ℕ → Kind
kind_by b None = if is_none b.level then kind.Full else kind.Level0
kind_by b (Some from) = kind.Level1

-- it is an image copy: one is asked for, or a level 0 is made for the recovery of copies
abbrev pub is_copy : BackupForm → Job → Bool
is_copy b j = is_none j.from && (b.copy || not (is_none b.merge_tag))

-- the rows that it has: those of a level 1 have versions at or above the checkpoint of its parent
abbrev pub rows_from : Option ℕ → List Row → List Row
rows_from None rows = rows
rows_from (Some from) rows = from_on from rows

-- the tag that it names: that of the copies for whose recovery it is made, or its own
abbrev pub named_tag : BackupForm → Option (List ℕ)
named_tag b = or_else b.merge_tag b.tag

-- the tag of a backup: the one that it names, or else that of its moment
abbrev pub IsTagBy : Option (List ℕ) → ℕ → List ℕ → Type 0
IsTagBy (Some name) moment tag = tag ≡ name
IsTagBy None moment tag = IsTag moment tag

-- The objects that are made

-- lists of n, the last one possibly shorter: n at a time of what is left, at most `most` times
abbrev pub cut : {A : Type 0} → ℕ → ℕ → List A → List (List A)
cut zero n xs = []
cut (suc most) n [] = []
cut (suc most) n (x ∷ xs) = take n (x ∷ xs) ∷ cut most n (drop n (x ∷ xs))

-- what goes into one object: each datafile by itself, or n of them
abbrev pub grouped : {A : Type 0} → Option ℕ → List A → List (List A)
grouped None xs = map (λ x. x ∷ []) xs
grouped (Some n) xs = cut (length xs) n xs

-- the datafiles of each object
abbrev pub objects_of : State → BackupForm → List (List ℕ)
objects_of s b = grouped b.files_per_set (taken s b)

-- what an object of these datafiles counts as
abbrev pub object_bytes : State → BackupForm → List ℕ → ℕ
object_bytes s b files = if is_none b.files_per_set then sum_by (piece_bytes s) files else set_bytes (world s) files

-- what a set's record says of a member; the rows that are counted are those that stand in the bytes
abbrev pub part_of : SetFile → SetPart
part_of m = record { file = m.piece.file; kind = m.piece.kind; from = m.piece.from; high = m.piece.high; rows = length (spelled m) }

-- the record of a set, under this id
abbrev pub set_entry : Bool → List ℕ → ℕ → ℕ → Set → SetEntry
set_entry keep tag moment id a =
    record {
      id = id;
      inc = a.inc;
      checkpoint = a.checkpoint;
      parts = map part_of a.members;
      size = length (set_spelling a);
      sha = sha256 (set_spelling a);
      status = Available;
      keep = keep;
      tag = tag;
      moment = moment;
    }

-- that no datafile is backed up is told
abbrev pub or_nothing : List Line → List Line
or_nothing [] = NothingToBackUp ∷ []
or_nothing (line ∷ lines) = line ∷ lines
