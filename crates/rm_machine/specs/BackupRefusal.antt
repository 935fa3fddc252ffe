-- Why a BACKUP of datafiles is refused.
use Rattle.std.specs.Prelude.{ℕ, zero, suc, ◌+◌, ◌==◌, ◌||◌, nat_lt, nat_le, if◌then◌else◌, is_none, Bool, true, false, Option, Some, None, List, [], ◌∷◌, find, length, sum_by}
use Rattle.std.specs.{List.{list_any}, Option.{option_map, option_map_or}}
use Rattle.rm_base.specs.{Numbers.{last_scn}, declared.{block.BlockId.{BlockId}, refusal.Absent.{Absent}}}
use Rattle.rm_base.specs.declared.refusal.Absent.TheVariants.{Thread, File, Block}
use Rattle.rm_base.specs.declared.refusal.{Limit.TheVariants.{Records, Bytes, ObjectIds, LogRecords}, Refusal.{Refusal}}
use Rattle.rm_base.specs.declared.refusal.Refusal.TheVariants.{Rm04, Rm05, Rm09, Rm11, Rm15, Rm17}
use Rattle.rm_history.specs.declared.world.Datafile.{Datafile}
use Rattle.rm_redo.specs.Online.{thread_records}
use Rattle.rm_lang_statement.specs.declared.command.{BackupForm.{BackupForm}, WriteForm.{WriteForm}}
use Rattle.rm_machine.specs.{Backup.{absent, lost_taken, object_bytes, objects_of, taken}, Damage.{has_block}}
use Rattle.rm_machine.specs.{Marks.{lacks_bytes, lacks_ids, lacks_room, marks_before}, State.{is_no_thread, now_of, on_path, placed}}
use Rattle.rm_machine.specs.{Asked.{by_thread, writes_in}, declared.state.State.{State}}

-- what a write names that is not there: its thread, its datafile on the current path, or its block, looked at in this order
abbrev pub absent_in : State → WriteForm → Option Absent
absent_in s w =
    if is_no_thread s w.thread then Some (Thread w.thread)
    else option_map_or (λ (d : Datafile). if nat_le d.blocks w.block then Some (Block w.block w.file) else None) (on_path s w.file) (Some (File w.file))

-- the first of the writes that names what is not there, and what that is
abbrev pub absent_of : State → List WriteForm → Option Absent
absent_of s [] = None
absent_of s (w ∷ ws) = option_map_or Some (absent_in s w) (absent_of s ws)

-- the datafile of the first of the writes whose datafile is lost
abbrev pub lost_of : State → List WriteForm → Option ℕ
lost_of s [] = None
lost_of s (w ∷ ws) = if is_none (placed s w.file) then Some w.file else lost_of s ws

-- how many marks a statement writes: one or none where it has a DURING, be it without a write
abbrev pub marks_for : State → Option (List WriteForm) → ℕ
marks_for s during = if is_none during then 0 else length (marks_before s)

abbrev pub mark_count : State → BackupForm → ℕ
mark_count s b = marks_for s b.during

-- the log of a thread has no room for the thread's writes
abbrev pub lacks_log : State → List WriteForm → ℕ → Bool
lacks_log s ws t = nat_lt 65536 (length (thread_records s.instance.logs t) + length (by_thread t ws))

-- so of one of n threads, from thread t on
abbrev pub lacks_logs : State → List WriteForm → ℕ → ℕ → Bool
lacks_logs s ws t zero = false
lacks_logs s ws t (suc n) = lacks_log s ws t || lacks_logs s ws (suc t) n

-- the first of the writes that names a damaged block
abbrev pub damaged_write : State → List WriteForm → Option WriteForm
damaged_write s ws = find (λ w. has_block s.instance.damaged w.file w.block) ws

-- the block that a write names
abbrev pub block_of : WriteForm → BlockId
block_of w = record { file = w.file; block = w.block }

-- the least damaged block of the datafiles that it would back up
abbrev pub damaged_taken : State → BackupForm → Option BlockId
damaged_taken s b = find (λ x. list_any (λ f. f == x.file) (taken s b)) s.instance.damaged

-- a block is damaged, one of a datafile that is backed up or one that is written
abbrev pub damage_refusal : State → BackupForm → Option Refusal
damage_refusal s b =
    option_map_or (λ x. Some (Rm17 x.file x.block)) (damaged_taken s b)
    (option_map (λ w. Rm17 w.file w.block) (damaged_write s (writes_in b)))

-- why the objects can't be made or the writes not be kept: too few records, bytes, ids, or log records are left, or SCNs; or a block is damaged
abbrev pub room_refusal : State → BackupForm → Option Refusal
room_refusal s b =
    if lacks_room s (length (objects_of s b) + mark_count s b) then Some (Rm11 Records)
    else if lacks_bytes s (sum_by (object_bytes s b) (objects_of s b)) then Some (Rm11 Bytes)
    else if lacks_ids s (length (objects_of s b)) then Some (Rm11 ObjectIds)
    else if lacks_logs s (writes_in b) 1 4 then Some (Rm11 LogRecords)
    else if nat_lt last_scn (now_of s + length (writes_in b)) then Some Rm15
    else damage_refusal s b

-- why it is refused, where all that it names is there: a datafile is lost, one that is backed up or one that is written
abbrev pub lost_refusal : State → BackupForm → Option Refusal
lost_refusal s b =
    option_map_or (λ f. Some (Rm09 f)) (lost_taken s b)
    (option_map_or (λ f. Some (Rm09 f)) (lost_of s (writes_in b)) (room_refusal s b))

-- Why it is refused. The refusal of the least number is told, of several with one number that of the datafiles that are backed up,
-- and then that of the first write.
abbrev pub backup_refusal : State → BackupForm → Option Refusal
backup_refusal s b =
    if s.instance.is_open then
    option_map_or (λ f. Some (Rm05 (File f))) (absent s b)
    (option_map_or (λ a. Some (Rm05 a)) (absent_of s (writes_in b)) (lost_refusal s b))
    else Some (Rm04 true)
