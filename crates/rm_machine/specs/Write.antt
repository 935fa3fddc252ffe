-- WRITE [THREAD t] DATAFILE f BLOCK b VALUE 'v'
use Rattle.std.specs.Prelude.{◌≡◌, ◌-◌, nat_le, if◌then◌else◌, is_none, true, Option, Some, None, [], ◌∷◌, length, slice_set}
use Rattle.std.specs.Option.{option_map, option_map_or}
use Rattle.rm_base.specs.{Numbers.{last_scn}, declared.{block.Change.{Change}, refusal.Refusal.{Refusal}}}
use Rattle.rm_base.specs.declared.refusal.Refusal.TheVariants.{Rm04, Rm05, Rm09, Rm11, Rm15, Rm17}
use Rattle.rm_base.specs.declared.refusal.{Absent.TheVariants.{Thread, File, Block}, Limit.TheVariants.{Records, ObjectIds, LogRecords}}
use Rattle.rm_blocks.specs.File.{written}
use Rattle.rm_history.specs.declared.world.Datafile.{Datafile}
use Rattle.rm_redo.specs.Online.{thread_records, with_change}
use Rattle.rm_track.specs.Bitmaps.{mark_at}
use Rattle.rm_lang_statement.specs.declared.command.WriteForm.{WriteForm}
use Rattle.rm_report.specs.declared.line.Line.TheVariants.{Written}
use Rattle.rm_machine.specs.{Effect.{Outcome, done, no_effect}, Damage.{has_block}}
use Rattle.rm_machine.specs.Marks.{lacks_ids, lacks_room, marks_before, one_further}
use Rattle.rm_machine.specs.{State.{current_of, is_no_thread, now_of, on_path, placed}, declared.state.State.{State}}

-- why it is refused, where its thread has an online log and its datafile is there
abbrev pub block_refusal : State → WriteForm → Datafile → Option Refusal
block_refusal s w d =
    if nat_le d.blocks w.block then Some (Rm05 (Block w.block w.file))
    else if is_none (placed s w.file) then Some (Rm09 w.file)
    else if lacks_room s (length (marks_before s)) then Some (Rm11 Records)
    else if lacks_ids s 0 then Some (Rm11 ObjectIds)
    else if nat_le 65536 (length (thread_records s.instance.logs w.thread)) then Some (Rm11 LogRecords)
    else if nat_le last_scn (now_of s) then Some Rm15
    else if has_block s.instance.damaged w.file w.block then Some (Rm17 w.file w.block)
    else None

-- why it is refused in an open database
abbrev pub place_refusal : State → WriteForm → Option Refusal
place_refusal s w =
    if is_no_thread s w.thread then Some (Rm05 (Thread w.thread))
    else option_map_or (block_refusal s w) (on_path s w.file) (Some (Rm05 (File w.file)))

-- why it is refused
abbrev pub write_refusal : State → WriteForm → Option Refusal
write_refusal s w = if s.instance.is_open then place_refusal s w else Some (Rm04 true)

-- the change that it makes, at `now`
abbrev pub change_of : State → WriteForm → Change
change_of s w = record { inc = current_of s; thread = w.thread; scn = now_of s; file = w.file; block = w.block; content = w.content }

-- the database with the change in its row and in the log of its thread, and its block marked, one SCN further
abbrev pub with_write : State → WriteForm → State
with_write s w =
    record {
      catalog = one_further s;
      instance = record s.instance {
        logs = with_change s.instance.logs (change_of s w);
        place = slice_set s.instance.place (w.file - 1) (option_map (λ x. written x w.block (now_of s) w.content) (placed s w.file));
        tracker = mark_at s.instance.tracker w.file w.block;
      };
    }

-- it makes the change
abbrev pub IsWriteOutcome : State → WriteForm → Outcome → Type 0
IsWriteOutcome s w o =
    o ≡ done (Written (now_of s) ∷ []) (record no_effect { changes = change_of s w ∷ [] }) (with_write s w)
