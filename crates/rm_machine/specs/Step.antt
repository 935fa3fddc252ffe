-- One step of the machine, and runs.
use Rattle.std.specs.Prelude.{ℕ, ◌≡◌, true, false, Option, Some, None, List, [], ◌∷◌, ◌++◌, All, length}
use Rattle.rm_base.specs.{Store.{Held}, declared.{block.Change.{Change}, refusal.Refusal.{Refusal, TheVariants.{Rm02, Rm03}}}}
use Rattle.rm_base.specs.declared.kinds.Class.TheVariants as class
use Rattle.rm_lang_statement.specs.{IsCommand.{is_command}, declared.command.Command.{Command}}
use Rattle.rm_lang_statement.specs.declared.command.Command.TheVariants.{ArchiveLogCurrent, Backup, BackupFrom, BackupLogs, BlockRecover, CatalogName, ChangeBackup, Corrupt, CreateDatabase, CreateDatafile, Crosscheck, Cut, Damage, DeleteBackup, DeleteExpired, DeleteObsolete, Dump, ListArchived, ListBackup, ListCopy, ListCorruption, ListIncarnation, LoseDatafile, LoseLog, Mount, OpenPlain, OpenResetlogs, Parallelism, Preview, Recover, RecoverCopy, RecoverTest, Remove, Rename, ReportNeedBackup, ReportObsolete, ReportSchema, ResetDatabase, Restore, Retention, ShowAll, SwitchLogfile, SwitchThread, Tracking, ValidateAll, Write}
use Rattle.rm_report.specs.declared.line.Reply.{Reply}
use Rattle.rm_report.specs.Reply as reply
use Rattle.rm_standby.specs.Standby.{HoldsSince}
use Rattle.rm_machine.specs.{Archive.{archive_all_refusal, IsArchiveOutcome}, Asked.{asked, writes_in}, BackupOutcome.{IsBackupOutcome}}
use Rattle.rm_machine.specs.{BackupRefusal.{backup_refusal}, BackupLogs.{IsBackupLogsOutcome}, BlockRecover.{IsBlockRecoverOutcome}}
use Rattle.rm_machine.specs.{BlockRecoverRefusal.{repair_refusal}, CatalogName.{IsCatalogOutcome}}
use Rattle.rm_machine.specs.Configure.{parallelism_refusal, retention_refusal, IsParallelismOutcome, IsRetentionOutcome}
use Rattle.rm_machine.specs.{Corrupt.{corrupt_refusal, IsCorruptOutcome, IsCorruptionOutcome}, CreateDatabase.{IsCreateOutcome}}
use Rattle.rm_machine.specs.CreateDatafile.{datafile_refusal, IsDatafileOutcome}
use Rattle.rm_machine.specs.Mishaps.{IsCutOutcome, IsDamageOutcome, IsRemoveOutcome, IsRenameOutcome}
use Rattle.rm_machine.specs.{DisableThread.{disable_refusal, IsDisableOutcome}, Dump.{dump_refusal, IsDumpOutcome}}
use Rattle.rm_machine.specs.{Effect.{Effect, LeavesObjects, Outcome, refused, told, done}, ListIncarnation.{IsListIncarnationOutcome}}
use Rattle.rm_machine.specs.{Lists.{IsListOutcome}, EnableThread.{enable_refusal, IsEnableOutcome}}
use Rattle.rm_machine.specs.{LoseDatafile.{lose_refusal, IsLoseOutcome}, LoseLog.{lose_log_refusal, IsLoseLogOutcome}, Machine.{Machine}}
use Rattle.rm_machine.specs.{Marks.{ids_refusal}, Mount.{IsMountOutcome}}
use Rattle.rm_machine.specs.{Obsolete.{IsDeleteObsoleteOutcome, IsNeedOutcome, IsReportOutcome, IsSafe}, Open.{open_refusal, IsOpenOutcome}}
use Rattle.rm_machine.specs.OpenResetlogs.{resetlogs_refusal, IsResetlogsOutcome}
use Rattle.rm_machine.specs.Recover.{BringsTruly, IsRecoverOutcome, recover_refusal}
use Rattle.rm_machine.specs.RecoverCopy.{recover_copy_refusal, IsRecoverCopyOutcome}
use Rattle.rm_machine.specs.{RecoverTest.{IsTestOutcome, TellsTruly, test_refusal}, Repair.{RepairsTruly}}
use Rattle.rm_machine.specs.ResetDatabase.{reset_refusal, IsResetOutcome}
use Rattle.rm_machine.specs.Restore.{preview_refusal, restore_refusal, IsPreviewOutcome, IsRestoreOutcome}
use Rattle.rm_machine.specs.{Roll.{increment, roll_refusal, IsRollOutcome}, Saved.{saved_names}, Shown.{IsSchemaOutcome, IsShowOutcome}}
use Rattle.rm_machine.specs.{State.{at_moment, world}, SwitchLogfile.{switch_refusal, IsSwitchOutcome}, Tracking.{IsTrackingOutcome}}
use Rattle.rm_machine.specs.Upkeep.{record_refusal, IsChangeOutcome, IsCrosscheckOutcome, IsDeleteExpiredOutcome, IsDeleteOutcome}
use Rattle.rm_machine.specs.{Validate.{IsValidateOutcome}, Write.{write_refusal, IsWriteOutcome}, declared.state.State.{State}}

-- what it writes has 64 bytes
abbrev pub HasContent : Command → Type 0
HasContent (Write w) = length w.content.0 ≡ 64
HasContent (Backup b) = All (λ w. length w.content.0 ≡ 64) (writes_in b)
HasContent (BlockRecover form) = All (λ w. length w.content.0 ≡ 64) (asked form.during)
HasContent _ = Unit {0}

-- the command is a statement of the grammar
abbrev pub IsStatement : Command → Type 0
IsStatement c = (is_command c ≡ true) × HasContent c

-- why the state alone refuses it
abbrev pub refusal_of : State → Command → Option Refusal
refusal_of s (CreateDatabase dbid threads scn) = Some Rm03
refusal_of s (CreateDatafile blocks) = datafile_refusal s blocks
refusal_of s (Dump f b) = dump_refusal s f b
refusal_of s (Write w) = write_refusal s w
refusal_of s (SwitchLogfile t) = switch_refusal s t
refusal_of s ArchiveLogCurrent = archive_all_refusal s
refusal_of s (Backup b) = backup_refusal s b
refusal_of s BackupLogs = None
refusal_of s (BackupFrom scn) = roll_refusal s scn
refusal_of s (BlockRecover form) = repair_refusal s form
refusal_of s Mount = ids_refusal s
refusal_of s OpenPlain = open_refusal s
refusal_of s OpenResetlogs = resetlogs_refusal s
refusal_of s (Restore file until) = restore_refusal s file until
refusal_of s (Preview until) = preview_refusal s until
refusal_of s (Recover until) = recover_refusal s until
refusal_of s (RecoverTest until inc) = test_refusal s until inc
refusal_of s (RecoverCopy tag until) = recover_copy_refusal s tag until
refusal_of s (ResetDatabase i) = reset_refusal s i
refusal_of s (Crosscheck class) = ids_refusal s
refusal_of s (ChangeBackup n to) = record_refusal s n
refusal_of s (DeleteBackup n) = record_refusal s n
refusal_of s (DeleteExpired class) = ids_refusal s
refusal_of s DeleteObsolete = ids_refusal s
refusal_of s (Retention form) = retention_refusal s form
refusal_of s (Parallelism channels) = parallelism_refusal s channels
refusal_of s (LoseDatafile f) = lose_refusal s f
refusal_of s (LoseLog t) = lose_log_refusal s t
refusal_of s (Corrupt f b) = corrupt_refusal s f b
refusal_of s (Remove name) = ids_refusal s
refusal_of s (Damage name at) = ids_refusal s
refusal_of s (Cut name to) = ids_refusal s
refusal_of s (Rename old new) = ids_refusal s
refusal_of s (Tracking on) = ids_refusal s
refusal_of s (SwitchThread t true) = enable_refusal s t
refusal_of s (SwitchThread t false) = disable_refusal s t
refusal_of s ValidateAll = None
refusal_of s ReportObsolete = None
refusal_of s ReportNeedBackup = None
refusal_of s ReportSchema = None
refusal_of s ListIncarnation = None
refusal_of s ListBackup = None
refusal_of s ListCopy = None
refusal_of s ListArchived = None
refusal_of s ListCorruption = None
refusal_of s ShowAll = None
refusal_of s (CatalogName name) = None

-- what it comes to otherwise, by what the store holds
abbrev pub IsDone : State → Held → Command → Outcome → Type 0
IsDone s held (CreateDatafile blocks) o = IsDatafileOutcome s blocks o
IsDone s held (Dump f b) o = IsDumpOutcome s f b o
IsDone s held (Write w) o = IsWriteOutcome s w o
IsDone s held (SwitchLogfile t) o = IsSwitchOutcome s t o
IsDone s held ArchiveLogCurrent o = IsArchiveOutcome s o
IsDone s held (Backup b) o = IsBackupOutcome s b o
IsDone s held BackupLogs o = IsBackupLogsOutcome s held o
IsDone s held (BackupFrom scn) o = IsRollOutcome s scn o
IsDone s held (BlockRecover form) o = IsBlockRecoverOutcome s held form o
IsDone s held Mount o = IsMountOutcome s o
IsDone s held OpenPlain o = IsOpenOutcome s o
IsDone s held OpenResetlogs o = IsResetlogsOutcome s o
IsDone s held (Restore file until) o = IsRestoreOutcome s held file until o
IsDone s held (Preview until) o = IsPreviewOutcome s held until o
IsDone s held (Recover until) o = IsRecoverOutcome s held until o
IsDone s held (RecoverTest until inc) o = IsTestOutcome s held until inc o
IsDone s held (RecoverCopy tag until) o = IsRecoverCopyOutcome s held tag until o
IsDone s held (ResetDatabase i) o = IsResetOutcome s i o
IsDone s held (Crosscheck class) o = IsCrosscheckOutcome s held class o
IsDone s held (ChangeBackup n to) o = IsChangeOutcome s n to o
IsDone s held (DeleteBackup n) o = IsDeleteOutcome s n o
IsDone s held (DeleteExpired class) o = IsDeleteExpiredOutcome s class o
IsDone s held DeleteObsolete o = IsDeleteObsoleteOutcome s held o
IsDone s held ReportObsolete o = IsReportOutcome s held o
IsDone s held ReportNeedBackup o = IsNeedOutcome s held o
IsDone s held ValidateAll o = IsValidateOutcome s held o
IsDone s held ListIncarnation o = IsListIncarnationOutcome s o
IsDone s held ListBackup o = IsListOutcome s class.Backup o
IsDone s held ListCopy o = IsListOutcome s class.Copy o
IsDone s held ListArchived o = IsListOutcome s class.Archived o
IsDone s held ListCorruption o = IsCorruptionOutcome s o
IsDone s held ReportSchema o = IsSchemaOutcome s o
IsDone s held ShowAll o = IsShowOutcome s o
IsDone s held (Retention form) o = IsRetentionOutcome s form o
IsDone s held (Parallelism channels) o = IsParallelismOutcome s channels o
IsDone s held (LoseDatafile f) o = IsLoseOutcome s f o
IsDone s held (LoseLog t) o = IsLoseLogOutcome s t o
IsDone s held (Corrupt f b) o = IsCorruptOutcome s f b o
IsDone s held (Remove name) o = IsRemoveOutcome s held name o
IsDone s held (Damage name at) o = IsDamageOutcome s held name at o
IsDone s held (Cut name to) o = IsCutOutcome s held name to o
IsDone s held (Rename old new) o = IsRenameOutcome s held old new o
IsDone s held (CreateDatabase dbid threads scn) o = ⊥
IsDone s held (Tracking on) o = IsTrackingOutcome s on o
IsDone s held (SwitchThread t true) o = IsEnableOutcome s t o
IsDone s held (SwitchThread t false) o = IsDisableOutcome s t o
IsDone s held (CatalogName name) o = IsCatalogOutcome s held name o

abbrev pub IsOutcomeBy : Option Refusal → State → Held → Command → Outcome → Type 0
IsOutcomeBy (Some r) s held c o = o ≡ refused r
IsOutcomeBy None s held c o = IsDone s held c o

-- What is at hand: the state at the moment of the statement, what the store holds, the statement, and
-- what it comes to. There is no history in it.
abbrev pub IsOutcome : State → Held → Command → Outcome → Type 0
IsOutcome s held c o = IsOutcomeBy (refusal_of s c) s held c o

-- what it comes to at this moment where there is no database
abbrev pub IsOutcomeWithout : Command → ℕ → Outcome → Type 0
IsOutcomeWithout (CreateDatabase dbid threads scn) moment o = IsCreateOutcome dbid threads scn moment o
IsOutcomeWithout _ moment o = o ≡ refused Rm02

-- the names of objects that a HOST statement gives
abbrev pub names_in : Command → List (List ℕ)
names_in (Remove name) = name ∷ []
names_in (Damage name at) = name ∷ []
names_in (Cut name to) = name ∷ []
names_in (Rename old new) = old ∷ new ∷ []
names_in (CreateDatabase dbid threads scn) = []
names_in (CreateDatafile blocks) = []
names_in (Write w) = []
names_in (SwitchLogfile thread) = []
names_in ArchiveLogCurrent = []
names_in Mount = []
names_in OpenPlain = []
names_in OpenResetlogs = []
names_in (Tracking on) = []
names_in (SwitchThread thread on) = []
names_in (ResetDatabase inc) = []
names_in (Restore file until) = []
names_in (Preview until) = []
names_in (Recover until) = []
names_in (RecoverTest until inc) = []
names_in (RecoverCopy tag until) = []
names_in (Backup b) = []
names_in BackupLogs = []
names_in (BackupFrom scn) = []
names_in (BlockRecover form) = []
names_in (Crosscheck class) = []
names_in ValidateAll = []
names_in (ChangeBackup id to) = []
names_in DeleteObsolete = []
names_in (DeleteBackup id) = []
names_in (DeleteExpired class) = []
names_in ReportObsolete = []
names_in ReportNeedBackup = []
names_in ReportSchema = []
names_in ListIncarnation = []
names_in ListBackup = []
names_in ListCopy = []
names_in ListArchived = []
names_in ListCorruption = []
names_in ShowAll = []
names_in (Dump file block) = []
names_in (Retention form) = []
names_in (Parallelism channels) = []
names_in (CatalogName name) = []
names_in (LoseDatafile file) = []
names_in (LoseLog thread) = []
names_in (Corrupt file block) = []

-- What is known of an outcome beyond that, from the state on which the statement acts: what a recovery brings back or tells is what the
-- history made, an increment holds what changed since its SCN, and what a deletion by the policy leaves keeps each target of the window.
abbrev pub Means : Option State → List Change → Held → Command → Outcome → Held → Type 0
Means None h held c o after = Unit {0}
Means (Some s) h held (Recover until) (done lines effect t) after = BringsTruly h s until t
Means (Some s) h held (RecoverTest until inc) (told lines) after = TellsTruly h s until inc lines
Means (Some s) h held DeleteObsolete (done lines effect t) after = IsSafe s held t after
Means (Some s) h held (BlockRecover form) (done lines effect t) after = RepairsTruly h s form effect t
Means (Some s) h held (BackupFrom scn) (done lines effect t) after = HoldsSince (world s) h scn (increment s scn)
Means (Some s) h held (CreateDatabase dbid threads scn) o after = Unit {0}
Means (Some s) h held (CreateDatafile blocks) o after = Unit {0}
Means (Some s) h held (Write w) o after = Unit {0}
Means (Some s) h held (SwitchLogfile thread) o after = Unit {0}
Means (Some s) h held ArchiveLogCurrent o after = Unit {0}
Means (Some s) h held Mount o after = Unit {0}
Means (Some s) h held OpenPlain o after = Unit {0}
Means (Some s) h held OpenResetlogs o after = Unit {0}
Means (Some s) h held (Tracking on) o after = Unit {0}
Means (Some s) h held (SwitchThread thread on) o after = Unit {0}
Means (Some s) h held (ResetDatabase inc) o after = Unit {0}
Means (Some s) h held (Restore file until) o after = Unit {0}
Means (Some s) h held (Preview until) o after = Unit {0}
Means (Some s) h held (Recover until) (told lines) after = Unit {0}
Means (Some s) h held (Recover until) (refused r) after = Unit {0}
Means (Some s) h held (RecoverTest until inc) (done lines effect t) after = Unit {0}
Means (Some s) h held (RecoverTest until inc) (refused r) after = Unit {0}
Means (Some s) h held (RecoverCopy tag until) o after = Unit {0}
Means (Some s) h held (Backup b) o after = Unit {0}
Means (Some s) h held BackupLogs o after = Unit {0}
Means (Some s) h held (BackupFrom scn) (told lines) after = Unit {0}
Means (Some s) h held (BackupFrom scn) (refused r) after = Unit {0}
Means (Some s) h held (BlockRecover form) (told lines) after = Unit {0}
Means (Some s) h held (BlockRecover form) (refused r) after = Unit {0}
Means (Some s) h held (Crosscheck class) o after = Unit {0}
Means (Some s) h held ValidateAll o after = Unit {0}
Means (Some s) h held (ChangeBackup id to) o after = Unit {0}
Means (Some s) h held DeleteObsolete (told lines) after = Unit {0}
Means (Some s) h held DeleteObsolete (refused r) after = Unit {0}
Means (Some s) h held (DeleteBackup id) o after = Unit {0}
Means (Some s) h held (DeleteExpired class) o after = Unit {0}
Means (Some s) h held ReportObsolete o after = Unit {0}
Means (Some s) h held ReportNeedBackup o after = Unit {0}
Means (Some s) h held ReportSchema o after = Unit {0}
Means (Some s) h held ListIncarnation o after = Unit {0}
Means (Some s) h held ListBackup o after = Unit {0}
Means (Some s) h held ListCopy o after = Unit {0}
Means (Some s) h held ListArchived o after = Unit {0}
Means (Some s) h held ListCorruption o after = Unit {0}
Means (Some s) h held ShowAll o after = Unit {0}
Means (Some s) h held (Dump file block) o after = Unit {0}
Means (Some s) h held (Retention form) o after = Unit {0}
Means (Some s) h held (Parallelism channels) o after = Unit {0}
Means (Some s) h held (CatalogName name) o after = Unit {0}
Means (Some s) h held (LoseDatafile file) o after = Unit {0}
Means (Some s) h held (LoseLog thread) o after = Unit {0}
Means (Some s) h held (Corrupt file block) o after = Unit {0}
Means (Some s) h held (Remove name) o after = Unit {0}
Means (Some s) h held (Damage name at) o after = Unit {0}
Means (Some s) h held (Cut name to) o after = Unit {0}
Means (Some s) h held (Rename old new) o after = Unit {0}

-- What a statement does outside: its effect. The objects of a saved site go too, of which no record tells any longer.
abbrev pub and_drops : Option State → Effect → Effect
and_drops None effect = effect
and_drops (Some s) effect = record effect { removes = effect.removes ++ saved_names s.catalog.saved }

-- the machine went on by this effect to the state t
pub record MachineFollows (m : Machine) (c : Command) (effect : Effect) (t : State) (n : Machine) : Type 0 where
  pub state : n.state ≡ Some t
  pub history : n.history ≡ m.history ++ effect.changes
  pub objects : LeavesObjects (and_drops m.state effect) m.objects n.objects
  pub made : n.made ≡ m.made ++ effect.made
  pub touched : n.touched ≡ names_in c ++ m.touched

-- From the machine m, whose statement acts on this state. A refusal is one line; it and what only tells change nothing.
abbrev pub StepBy : Option State → Machine → Command → Outcome → Reply → Machine → Type 0
StepBy o m c (refused r) said n = (said ≡ reply.refused_by r) × (n ≡ m)
StepBy o m c (told lines) said n = (said ≡ reply.said lines) × (n ≡ m) × Means o m.history m.objects c (told lines) n.objects
StepBy o m c (done lines effect t) said n = (said ≡ reply.said lines) × MachineFollows m c effect t n × Means o m.history m.objects c (done lines effect t) n.objects

abbrev pub StepIn : Option State → Machine → Command → ℕ → Reply → Machine → Type 0
StepIn None m c moment said n = (o : Outcome) × IsOutcomeWithout c moment o × StepBy None m c o said n
StepIn (Some s) m c moment said n = (o : Outcome) × IsOutcome (at_moment s moment) m.objects c o × StepBy (Some (at_moment s moment)) m c o said n

-- From m, at this moment, the machine gives this reply to the statement and goes on to n. The statement acts on
-- the database as it is at its moment, which is kept by what is done.
abbrev pub Step : Machine → Command → ℕ → Reply → Machine → Type 0
Step m c moment said n = StepIn m.state m c moment said n
