-- BACKUP INCREMENTAL FROM SCN: an increment of all datafiles, by which a standby is rolled forward
use Rattle.std.specs.Prelude.{ℕ, ◌≡◌, ◌+◌, ◌||◌, nat_lt, if◌then◌else◌, true, false, Option, Some, None, List, [], ◌∷◌, length, map, sum_by}
use Rattle.std.specs.Option.{option_map_or}
use Rattle.rm_base.specs.declared.refusal.{Limit.TheVariants.{Bytes, ObjectIds}, Refusal.{Refusal, TheVariants.{Rm04, Rm06, Rm09, Rm11}}}
use Rattle.rm_catalog_typed.specs.{Changes.{with_base}, TypedCatalog.{TypedCatalog}}
use Rattle.rm_commit.specs.declared.commit.Object.{Object}
use Rattle.rm_evidence.specs.Names.{roll_name}
use Rattle.rm_history.specs.Tree.{reset_of}
use Rattle.rm_lang_statement.specs.declared.command.BackupForm.{BackupForm}
use Rattle.rm_machine.specs.{Backup.{lost_taken, rows_in, taken}, BackupOutcome.{begun}, BackupRefusal.{damage_refusal}}
use Rattle.rm_machine.specs.{Effect.{Effect, Outcome, done}, MadeSets.{member_by}, Marks.{lacks_bytes, lacks_ids, set_bytes}}
use Rattle.rm_machine.specs.{State.{ledger, tree, world, current_of, now_of}, declared.state.State.{State}}
use Rattle.rm_piece.specs.{SetSpelling.{set_spelling}, declared.set.{Set.{Set}, SetFile.{SetFile}}}
use Rattle.rm_report.specs.declared.line.Line.{Line, TheVariants.{Rolled}}

-- BACKUP INCREMENTAL LEVEL 1 DATABASE FILESPERSET 64: all datafiles of the current path, in one set
abbrev pub of_all : BackupForm
of_all = record {
  copy = false;
  level = Some 1;
  cumulative = false;
  merge_tag = None;
  files = None;
  files_per_set = Some 64;
  tag = None;
  keep = false;
  during = None;
}

-- the datafiles of the current path, ascending
abbrev pub rolled_files : State → List ℕ
rolled_files s = taken s of_all

-- by any form of a backup, of a datafile in place the rows of versions at or above an SCN
abbrev pub standing_member : State → BackupForm → ℕ → ℕ → SetFile
standing_member s b from f = member_by (ledger s) b (now_of s) (record { file = f; from = Some from }) (rows_in s f)

-- the set of such members, up to `now`
abbrev pub standing_set : State → BackupForm → ℕ → List ℕ → Set
standing_set s b from files =
    record {
      dbid = (ledger s).base.dbid;
      inc = current_of s;
      checkpoint = now_of s;
      members = map (standing_member s b from) files;
    }

-- the increment: so of each datafile of the current path
abbrev pub roll_member : State → ℕ → ℕ → SetFile
roll_member s from f = standing_member s of_all from f

abbrev pub increment : State → ℕ → Set
increment s from = standing_set s of_all from (rolled_files s)

-- how many rows a set lists
abbrev pub rows_listed : Set → ℕ
rows_listed a = sum_by (λ m. length m.piece.rows) a.members

-- why a set of the datafiles that a form takes is refused, where all are in place: too few bytes or ids are left, or a block is damaged
abbrev pub room_by : State → BackupForm → Option Refusal
room_by s b =
    if lacks_bytes s (set_bytes (world s) (taken s b)) then Some (Rm11 Bytes)
    else if lacks_ids s 1 then Some (Rm11 ObjectIds)
    else damage_refusal s b

abbrev pub roll_room : State → Option Refusal
roll_room s = room_by s of_all

-- or one of them is lost
abbrev pub lost_by : State → BackupForm → Option Refusal
lost_by s b = option_map_or (λ f. Some (Rm09 f)) (lost_taken s b) (room_by s b)

-- why it is refused: the SCN lies below the first incarnation or above `now`, or a datafile is lost
abbrev pub roll_refusal : State → ℕ → Option Refusal
roll_refusal s from =
    if s.instance.is_open then
    (if nat_lt from (reset_of (tree s) 1) || nat_lt (now_of s) from then Some (Rm06 from (reset_of (tree s) 1) (now_of s))
    else lost_by s of_all)
    else Some (Rm04 true)

-- with the next id drawn
abbrev pub with_next_id : TypedCatalog → TypedCatalog
with_next_id r = with_base r (record r.ledger.base { next_id = r.ledger.base.next_id + 1 })

-- the database after it: the current bitmap of each of the datafiles ends at `now`, as at a BACKUP, and an id is drawn; no record tells of
-- the increment, so it is the parent of none
abbrev pub after_roll : State → State
after_roll s = record (begun s of_all) { catalog = with_next_id s.catalog }

-- a set as an object, under the next id
abbrev pub object_of : State → Set → Object
object_of s a = record { name = roll_name (ledger s).base.next_id; bytes = set_spelling a }

abbrev pub roll_object : State → ℕ → Object
roll_object s from = object_of s (increment s from)

abbrev pub roll_effect : State → ℕ → Effect
roll_effect s from = record { changes = []; made = []; puts = roll_object s from ∷ []; removes = [] }

-- its line, where it lists rows from an SCN on
abbrev pub line_of : State → Set → ℕ → Line
line_of s a from = Rolled (ledger s).base.next_id from a.checkpoint (length a.members) (rows_listed a)

abbrev pub roll_line : State → ℕ → Line
roll_line s from = line_of s (increment s from) from

abbrev pub IsRollOutcome : State → ℕ → Outcome → Type 0
IsRollOutcome s from o = o ≡ done (roll_line s from ∷ []) (roll_effect s from) (after_roll s)
