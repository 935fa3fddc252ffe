-- No refusal of a sound state tells a moment past the last.
use Rattle.std.specs.{Prelude.{IfSome, if◌then◌else◌}, Option.{option_and_then, option_map, option_map_or}}
use Rattle.std.proofs.Common.{◌≡◌, ℕ, Bool, true, false, List, Option, Some, None, sym, subst}
use Rattle.rm_base.specs.declared.refusal.Refusal.{Refusal}
use Rattle.rm_lang_statement.specs.declared.command.{BackupForm.{BackupForm}, Command.{Command}}
use Rattle.rm_lang_statement.specs.declared.command.Command.TheVariants.{ArchiveLogCurrent, Backup, BackupFrom, BackupLogs, BlockRecover, ChangeBackup, Corrupt, CreateDatabase, CreateDatafile, Crosscheck, Cut, Damage, DeleteBackup, DeleteExpired, DeleteObsolete, Dump, LoseDatafile, LoseLog, Mount, OpenPlain, OpenResetlogs, Parallelism, Preview, Recover, RecoverCopy, RecoverTest, Remove, Rename, ResetDatabase, Restore, Retention, SwitchLogfile, SwitchThread, Tracking, Write}
use Rattle.rm_lang_statement.specs.declared.command.{RepairForm.{RepairForm}, RetentionForm.{RetentionForm}, Until.{Until}}
use Rattle.rm_lang_statement.specs.declared.command.WriteForm.{WriteForm}
use Rattle.rm_lang_statement.specs.declared.command.RetentionForm.TheVariants as form
use Rattle.rm_lang_statement.specs.declared.command.Until.TheVariants as until
use Rattle.rm_history.specs.declared.world.Datafile.{Datafile}
use Rattle.rm_report.specs.Reply.{HasDate}
use Rattle.rm_machine.specs.{Archive.{archive_all_refusal, archiving_refusal}, BackupRefusal.{backup_refusal, damage_refusal, room_refusal}}
use Rattle.rm_machine.specs.BlockRecoverRefusal.{repair_damage_refusal, repair_refusal, repair_room_refusal}
use Rattle.rm_machine.specs.{Configure.{parallelism_refusal, policy_refusal, retention_refusal}, Corrupt.{corrupt_refusal}}
use Rattle.rm_machine.specs.{CreateDatafile.{datafile_refusal}, DisableThread.{disable_refusal, last_refusal}, Dump.{dump_refusal}}
use Rattle.rm_machine.specs.{EnableThread.{enable_refusal}, LoseDatafile.{lose_refusal}, LoseLog.{lose_log_refusal}, Marks.{ids_refusal}}
use Rattle.rm_machine.specs.{Open.{open_refusal}, OpenResetlogs.{resetlogs_refusal}, Recover.{recover_refusal, target_refusal}}
use Rattle.rm_machine.specs.RecoverCopy.{copy_refusal_at, recover_copy_refusal, tag_refusal, targetless_refusal}
use Rattle.rm_machine.specs.{RecoverTest.{test_refusal, tested, tested_refusal}, ResetDatabase.{reset_refusal}, Recovery.{range_refusal}}
use Rattle.rm_machine.specs.{Restore.{absent_refusal, place_refusal, preview_refusal, restore_refusal}, Roll.{roll_refusal, roll_room}}
use Rattle.rm_machine.specs.{Sound.{IsSound}, Step.{refusal_of}, SwitchLogfile.{switch_refusal}}
use Rattle.rm_machine.specs.Until.{nowhere_refusal, or_else, refusal_at, target_of, thread_refusal, until_refusal}
use Rattle.rm_machine.specs.{Upkeep.{record_refusal}, Write.{block_refusal, write_refusal}, State.{current_of, tree}}
use Rattle.rm_machine.{specs.declared.state.State.{State}, proofs.Untils.{nowhere-dated}}

-- where it refuses, it tells no moment past the last
record IsDated (o : Option Refusal) : Type 0 where
  date : IfSome o HasDate

never : IsDated None
never = record { date = tt }

once : (r : Refusal) → HasDate r → IsDated (Some r)
once r date = record { date = date }

if-dated : (b : Bool) (x y : Option Refusal) → IsDated x → IsDated y → IsDated (if b then x else y)
if-dated true x y one two = one
if-dated false x y one two = two

unless-dated : (b : Bool) (r : Refusal) (y : Option Refusal) → HasDate r → IsDated y → IsDated (if b then Some r else y)
unless-dated true r y date two = once r date
unless-dated false r y date two = two

or-dated : {X : Type 0} (f : X → Option Refusal) (o : Option X) (d : Option Refusal) → ((x : X) → IsDated (f x)) → IsDated d → IsDated (option_map_or f o d)
or-dated f None d one two = two
or-dated f (Some x) d one two = one x

map-dated : {X : Type 0} (f : X → Refusal) (o : Option X) → ((x : X) → HasDate (f x)) → IsDated (option_map f o)
map-dated f None one = never
map-dated f (Some x) one = once (f x) (one x)

then-dated : {X : Type 0} (f : X → Option Refusal) (o : Option X) → ((x : X) → IsDated (f x)) → IsDated (option_and_then f o)
then-dated f None one = never
then-dated f (Some x) one = one x

else-dated : (x y : Option Refusal) → IsDated x → IsDated y → IsDated (or_else x y)
else-dated None y one two = two
else-dated (Some r) y one two = one

ids-dated : (s : State) → IsDated (ids_refusal s)
ids-dated s = search (unless-dated, never)

datafile-dated : (s : State) (blocks : ℕ) → IsDated (datafile_refusal s blocks)
datafile-dated s blocks = search (if-dated, unless-dated, never, once) depth 9

block-dated : (s : State) (w : WriteForm) (d : Datafile) → IsDated (block_refusal s w d)
block-dated s w d = search (unless-dated, never) depth 9

write-dated : (s : State) (w : WriteForm) → IsDated (write_refusal s w)
write-dated s w = search (if-dated, unless-dated, or-dated, block-dated, once)

dump-dated : (s : State) (f b : ℕ) → IsDated (dump_refusal s f b)
dump-dated s f b = search (unless-dated, or-dated, never, once) depth 9

switch-dated : (s : State) (t : ℕ) → IsDated (switch_refusal s t)
switch-dated s t = search (if-dated, unless-dated, ids-dated, never, once) depth 9

archiving-dated : (s : State) (more : ℕ) → IsDated (archiving_refusal s more)
archiving-dated s more = search (unless-dated, never)

archive-dated : (s : State) → IsDated (archive_all_refusal s)
archive-dated s = search (if-dated, archiving-dated, once)

damage-dated : (s : State) (b : BackupForm) → IsDated (damage_refusal s b)
damage-dated s b = search (or-dated, map-dated, once)

room-dated : (s : State) (b : BackupForm) → IsDated (room_refusal s b)
room-dated s b = search (unless-dated, damage-dated) depth 9

backup-dated : (s : State) (b : BackupForm) → IsDated (backup_refusal s b)
backup-dated s b = search (if-dated, or-dated, room-dated, once) depth 9

roll_room-dated : (s : State) → IsDated (roll_room s)
roll_room-dated s = search (unless-dated, damage-dated)

roll-dated : (s : State) (scn : ℕ) → IsDated (roll_refusal s scn)
roll-dated s scn = search (if-dated, or-dated, roll_room-dated, once) depth 9

open-dated : (s : State) → IsDated (open_refusal s)
open-dated s = search (if-dated, unless-dated, ids-dated, once)

resetlogs-dated : (s : State) → IsDated (resetlogs_refusal s)
resetlogs-dated s = search (unless-dated, or-dated, archiving-dated, once)

reset-dated : (s : State) (i : ℕ) → IsDated (reset_refusal s i)
reset-dated s i = search (unless-dated, ids-dated)

target-dated : (s : State) (at : ℕ) → IsDated (target_refusal s at)
target-dated s at = search (map-dated, else-dated, ids-dated)

-- the redo thread of an UNTIL
thread-dated : (s : State) (u : Option Until) → IsDated (thread_refusal s u)
thread-dated s None = never
thread-dated s (Some (until.Scn at)) = never
thread-dated s (Some (until.Sequence n t)) = search (unless-dated, never)
thread-dated s (Some (until.Time text)) = never

-- by the target of an UNTIL, where it leads to one
module _ (s : State) (sound : IsSound s) (i : ℕ) (u : Option Until) (f : ℕ → Option Refusal) (otherwise : Option Refusal) (each : (at : ℕ) → IsDated (f at)) (other : IsDated otherwise) where
  at-dated : IsDated (refusal_at s i u f otherwise)
  at-dated =
      or-dated f (target_of s i u) (or_else otherwise (nowhere_refusal s u)) each (else-dated otherwise (nowhere_refusal s u) other (record { date = nowhere-dated s u sound }))

  until-dated : IsDated (until_refusal s i u f otherwise)
  until-dated = else-dated (thread_refusal s u) (refusal_at s i u f otherwise) (thread-dated s u) at-dated

range-dated : (s : State) (i at : ℕ) → IsDated (range_refusal (tree s) i at)
range-dated s i at = search map-dated

recover-dated : (s : State) → IsSound s → (u : Option Until) → IsDated (recover_refusal s u)
recover-dated s sound u =
    unless-dated s.instance.is_open _ _ tt (until-dated s sound (current_of s) u (target_refusal s) (ids_refusal s) (target-dated s) (ids-dated s))

tested-dated : (s : State) → IsSound s → (u : Option Until) (i : ℕ) → IsDated (tested_refusal s u i)
tested-dated s sound u i = unless-dated _ _ _ tt (at-dated s sound i u (range_refusal (tree s) i) None (range-dated s i) never)

test-dated : (s : State) → IsSound s → (u : Option Until) (inc : Option ℕ) → IsDated (test_refusal s u inc)
test-dated s sound u inc = else-dated (thread_refusal s u) _ (thread-dated s u) (tested-dated s sound u (tested s inc))

tag-dated : (s : State) (tag : List ℕ) → IsDated (tag_refusal s tag)
tag-dated s tag = search (if-dated, else-dated, ids-dated, never, once)

targetless-dated : (s : State) (tag : List ℕ) → IsDated (targetless_refusal s tag)
targetless-dated s tag = else-dated (ids_refusal s) (tag_refusal s tag) (ids-dated s) (tag-dated s tag)

copy-dated : (s : State) → IsSound s → (tag : List ℕ) (u : Option Until) → IsDated (recover_copy_refusal s tag u)
copy-dated s sound tag u =
    until-dated s sound (current_of s) u (copy_refusal_at s tag) (targetless_refusal s tag)
    (λ at. else-dated (range_refusal (tree s) (current_of s) at) (tag_refusal s tag) (range-dated s (current_of s) at) (tag-dated s tag)) (targetless-dated s tag)

absent-dated : (s : State) (at : ℕ) (file : Option ℕ) → IsDated (absent_refusal s at file)
absent-dated s at None = never
absent-dated s at (Some f) = search (unless-dated, never)

place-dated : (s : State) (file : Option ℕ) (at : ℕ) → IsDated (place_refusal s file at)
place-dated s file at = search (map-dated, else-dated, absent-dated, ids-dated)

restore-dated : (s : State) → IsSound s → (file : Option ℕ) (u : Option Until) → IsDated (restore_refusal s file u)
restore-dated s sound file u =
    unless-dated s.instance.is_open _ _ tt (until-dated s sound (current_of s) u (place_refusal s file) (ids_refusal s) (place-dated s file) (ids-dated s))

preview-dated : (s : State) → IsSound s → (u : Option Until) → IsDated (preview_refusal s u)
preview-dated s sound u = until-dated s sound (current_of s) u (range_refusal (tree s) (current_of s)) None (range-dated s (current_of s)) never

enable-dated : (s : State) (t : ℕ) → IsDated (enable_refusal s t)
enable-dated s t = search (if-dated, unless-dated, never, once) depth 9

last-dated : (s : State) (t : ℕ) → IsDated (last_refusal s t)
last-dated s t = search (if-dated, unless-dated, never, once)

disable-dated : (s : State) (t : ℕ) → IsDated (disable_refusal s t)
disable-dated s t = search (if-dated, unless-dated, last-dated, once) depth 9

lose-dated : (s : State) (f : ℕ) → IsDated (lose_refusal s f)
lose-dated s f = search (unless-dated, ids-dated)

lose_log-dated : (s : State) (t : ℕ) → IsDated (lose_log_refusal s t)
lose_log-dated s t = search (unless-dated, ids-dated)

corrupt-dated : (s : State) (f b : ℕ) → IsDated (corrupt_refusal s f b)
corrupt-dated s f b = search (if-dated, unless-dated, or-dated, ids-dated, once) depth 9

repair_damage-dated : (s : State) (form : RepairForm) → IsDated (repair_damage_refusal s form)
repair_damage-dated s form = search (or-dated, then-dated, map-dated, once)

repair_room-dated : (s : State) (form : RepairForm) → IsDated (repair_room_refusal s form)
repair_room-dated s form = search (unless-dated, repair_damage-dated)

repair-dated : (s : State) (form : RepairForm) → IsDated (repair_refusal s form)
repair-dated s form = search (if-dated, or-dated, repair_room-dated, once) depth 9

record-dated : (s : State) (n : ℕ) → IsDated (record_refusal s n)
record-dated s n = search (unless-dated, never)

policy-dated : (f : RetentionForm) → IsDated (policy_refusal f)
policy-dated (form.Window days) = search (unless-dated, never)
policy-dated (form.Redundancy count) = search (unless-dated, never)
policy-dated form.Nothing = never
policy-dated form.Clear = never

retention-dated : (s : State) (f : RetentionForm) → IsDated (retention_refusal s f)
retention-dated s f = search (unless-dated, policy-dated)

parallelism-dated : (s : State) (channels : ℕ) → IsDated (parallelism_refusal s channels)
parallelism-dated s channels = search (unless-dated, ids-dated)

every-refusal-dated : (s : State) → IsSound s → (c : Command) → IsDated (refusal_of s c)
every-refusal-dated s sound (CreateDatabase dbid threads scn) = once _ tt
every-refusal-dated s sound (CreateDatafile blocks) = datafile-dated s blocks
every-refusal-dated s sound (Dump f b) = dump-dated s f b
every-refusal-dated s sound (Write w) = write-dated s w
every-refusal-dated s sound (SwitchLogfile t) = switch-dated s t
every-refusal-dated s sound ArchiveLogCurrent = archive-dated s
every-refusal-dated s sound (Backup b) = backup-dated s b
every-refusal-dated s sound BackupLogs = never
every-refusal-dated s sound (BackupFrom scn) = roll-dated s scn
every-refusal-dated s sound (BlockRecover form) = repair-dated s form
every-refusal-dated s sound Mount = ids-dated s
every-refusal-dated s sound OpenPlain = open-dated s
every-refusal-dated s sound OpenResetlogs = resetlogs-dated s
every-refusal-dated s sound (Restore file until) = restore-dated s sound file until
every-refusal-dated s sound (Preview until) = preview-dated s sound until
every-refusal-dated s sound (Recover until) = recover-dated s sound until
every-refusal-dated s sound (RecoverTest until inc) = test-dated s sound until inc
every-refusal-dated s sound (RecoverCopy tag until) = copy-dated s sound tag until
every-refusal-dated s sound (ResetDatabase i) = reset-dated s i
every-refusal-dated s sound (Crosscheck class) = ids-dated s
every-refusal-dated s sound (ChangeBackup n to) = record-dated s n
every-refusal-dated s sound (DeleteBackup n) = record-dated s n
every-refusal-dated s sound (DeleteExpired class) = ids-dated s
every-refusal-dated s sound DeleteObsolete = ids-dated s
every-refusal-dated s sound (Retention form) = retention-dated s form
every-refusal-dated s sound (Parallelism channels) = parallelism-dated s channels
every-refusal-dated s sound (Tracking on) = ids-dated s
every-refusal-dated s sound (SwitchThread t true) = enable-dated s t
every-refusal-dated s sound (SwitchThread t false) = disable-dated s t
every-refusal-dated s sound (LoseDatafile f) = lose-dated s f
every-refusal-dated s sound (LoseLog t) = lose_log-dated s t
every-refusal-dated s sound (Corrupt f b) = corrupt-dated s f b
every-refusal-dated s sound (Remove name) = ids-dated s
every-refusal-dated s sound (Damage name at) = ids-dated s
every-refusal-dated s sound (Cut name to) = ids-dated s
every-refusal-dated s sound (Rename old new) = ids-dated s
every-refusal-dated s sound _ = never

pub refusal-dated : (s : State) → IsSound s → (c : Command) (r : Refusal) → Some r ≡ refusal_of s c → HasDate r
refusal-dated s sound c r is = (subst IsDated (sym is) (every-refusal-dated s sound c)).date
