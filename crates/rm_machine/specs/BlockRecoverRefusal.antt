-- Why a BLOCKRECOVER is refused.
use Rattle.std.specs.Prelude.{ℕ, ◌+◌, not, nat_lt, nat_le, if◌then◌else◌, is_none, true, Option, Some, None, find, length}
use Rattle.std.specs.Option.{option_and_then, option_map, option_map_or}
use Rattle.rm_base.specs.{Numbers.{last_scn}, declared.refusal.{Absent.{Absent}, Limit.TheVariants.{Records, ObjectIds, LogRecords}}}
use Rattle.rm_base.specs.declared.refusal.Refusal.{Refusal, TheVariants.{Rm04, Rm05, Rm09, Rm11, Rm15, Rm17, Rm18}}
use Rattle.rm_base.specs.declared.refusal.Absent.TheVariants as absent
use Rattle.rm_history.specs.declared.world.Datafile.{Datafile}
use Rattle.rm_lang_statement.specs.declared.command.{NamedBlocks.{NamedBlocks}, RepairForm.{RepairForm}}
use Rattle.rm_machine.specs.{Asked.{asked}, BackupRefusal.{absent_of, damaged_write, lacks_logs, lost_of, marks_for}, Damage.{has_block}}
use Rattle.rm_machine.specs.{Marks.{lacks_ids, lacks_room}, State.{now_of, on_path, placed}, declared.state.State.{State}}

-- what it names that is not there: its datafile on the current path, or else the least block that is not one of it
abbrev pub absent_named : State → NamedBlocks → Option Absent
absent_named s n =
    option_map_or (λ (d : Datafile). option_map (λ b. absent.Block b n.file) (find (λ b. nat_le d.blocks b) n.blocks)) (on_path s n.file) (Some (absent.File n.file))

-- its datafile, where that is lost
abbrev pub lost_named : State → NamedBlocks → Option ℕ
lost_named s n = if is_none (placed s n.file) then Some n.file else None

-- the least block that it names and that is not damaged
abbrev pub sound_named : State → NamedBlocks → Option ℕ
sound_named s n = find (λ b. not (has_block s.instance.damaged n.file b)) n.blocks

-- a write names a damaged block, or a block that it names is not damaged
abbrev pub repair_damage_refusal : State → RepairForm → Option Refusal
repair_damage_refusal s form =
    option_map_or (λ w. Some (Rm17 w.file w.block)) (damaged_write s (asked form.during))
    (option_and_then (λ n. option_map (λ b. Rm18 n.file b) (sound_named s n)) form.blocks)

-- why the writes can't be kept, or the blocks not be mended
abbrev pub repair_room_refusal : State → RepairForm → Option Refusal
repair_room_refusal s form =
    if lacks_room s (marks_for s form.during) then Some (Rm11 Records)
    else if lacks_ids s 0 then Some (Rm11 ObjectIds)
    else if lacks_logs s (asked form.during) 1 4 then Some (Rm11 LogRecords)
    else if nat_lt last_scn (now_of s + length (asked form.during)) then Some Rm15
    else repair_damage_refusal s form

-- why it is refused, where all that it names is there: its datafile is lost, or that of a write
abbrev pub repair_lost_refusal : State → RepairForm → Option Refusal
repair_lost_refusal s form =
    option_map_or (λ f. Some (Rm09 f)) (option_and_then (lost_named s) form.blocks)
    (option_map_or (λ f. Some (Rm09 f)) (lost_of s (asked form.during)) (repair_room_refusal s form))

-- Why it is refused. The refusal of the least number is told, of several with one number that of the blocks that it names, and then
-- that of the first write.
abbrev pub repair_refusal : State → RepairForm → Option Refusal
repair_refusal s form =
    if s.instance.is_open then
    option_map_or (λ a. Some (Rm05 a)) (option_and_then (absent_named s) form.blocks)
    (option_map_or (λ a. Some (Rm05 a)) (absent_of s (asked form.during)) (repair_lost_refusal s form))
    else Some (Rm04 true)
