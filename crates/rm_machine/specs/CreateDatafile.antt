-- CREATE DATAFILE BLOCKS n
use Rattle.std.specs.Prelude.{ℕ, ◌≡◌, ◌+◌, nat_lt, nat_le, if◌then◌else◌, true, Option, Some, None, List, [], ◌∷◌, ◌++◌, length, sum_by}
use Rattle.rm_base.specs.{Numbers.{last_scn}, declared.refusal.Refusal.{Refusal, TheVariants.{Rm04, Rm11, Rm15}}}
use Rattle.rm_base.specs.declared.refusal.Limit.TheVariants.{Files, FileBlocks, Blocks, Records, ObjectIds}
use Rattle.rm_blocks.specs.File.{created}
use Rattle.rm_history.specs.declared.world.Datafile.{Datafile}
use Rattle.rm_report.specs.declared.line.Line.TheVariants.{DatafileAt}
use Rattle.rm_track.specs.Bitmaps.{Tracked, fresh, with_file as with_tracked}
use Rattle.rm_catalog_typed.specs.Changes.{with_file}
use Rattle.rm_machine.specs.{Effect.{Outcome, done, no_effect}, Marks.{lacks_ids, lacks_room, marks_before, one_further}}
use Rattle.rm_machine.specs.{State.{ledger, current_of, now_of}, Tracked.{tracks}, declared.state.State.{State}}

-- why it is refused in an open database
abbrev pub room_refusal : State → ℕ → Option Refusal
room_refusal s blocks =
    if nat_le 64 (length (ledger s).files) then Some (Rm11 Files)
    else if nat_lt 65536 blocks then Some (Rm11 FileBlocks)
    else if nat_lt 131072 (sum_by (λ d. d.blocks) (ledger s).files + blocks) then Some (Rm11 Blocks)
    else if lacks_room s (length (marks_before s) + 1) then Some (Rm11 Records)
    else if lacks_ids s 0 then Some (Rm11 ObjectIds)
    else if nat_le last_scn (now_of s) then Some Rm15
    else None

-- why it is refused
abbrev pub datafile_refusal : State → ℕ → Option Refusal
datafile_refusal s blocks = if s.instance.is_open then room_refusal s blocks else Some (Rm04 true)

-- the number of the next datafile
abbrev pub next_file : State → ℕ
next_file s = length (ledger s).files + 1

-- the new datafile, created at `now`
abbrev pub new_datafile : State → ℕ → Datafile
new_datafile s blocks = record { inc = current_of s; creation = now_of s; blocks = blocks }

-- the bitmaps with those of the new datafile, where changes are tracked: from the `now` on that stands after it
abbrev pub tracker_with : State → ℕ → List Tracked
tracker_with s blocks =
    if tracks s.instance.is_open (ledger s) then with_tracked s.instance.tracker (fresh (next_file s) blocks (now_of s + 1)) else s.instance.tracker

-- the database with the new datafile, which stands in place as it was created, one SCN further
abbrev pub with_datafile : State → ℕ → State
with_datafile s blocks =
    record {
      catalog = with_file (one_further s) (new_datafile s blocks);
      instance = record s.instance { place = s.instance.place ++ Some (created (next_file s) (current_of s) (now_of s) blocks) ∷ []; tracker = tracker_with s blocks };
    }

-- it adds the datafile, which takes the next number
abbrev pub IsDatafileOutcome : State → ℕ → Outcome → Type 0
IsDatafileOutcome s blocks o = o ≡ done (DatafileAt (next_file s) (now_of s) blocks ∷ []) no_effect (with_datafile s blocks)
