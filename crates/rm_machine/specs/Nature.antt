-- The nature of a statement: what it does, and by what. What is said of several forms alike is said of natures, so that each form is told once.
use Rattle.std.specs.Prelude.{Bool, true, false}
use Rattle.rm_lang_statement.specs.declared.command.Command.{Command}
use Rattle.rm_lang_statement.specs.declared.command.Command.TheVariants.{CreateDatabase, CreateDatafile, Write, SwitchLogfile, ArchiveLogCurrent, Mount, OpenPlain, OpenResetlogs, Tracking, SwitchThread, ResetDatabase, Restore, Preview, Recover, RecoverTest, RecoverCopy, Backup, BackupFrom, BackupLogs, Crosscheck, ValidateAll, ChangeBackup, DeleteObsolete, DeleteBackup, DeleteExpired, ReportObsolete, ReportNeedBackup, ReportSchema, ListIncarnation, ListBackup, ListCopy, ListArchived, ShowAll, Dump, Retention, Parallelism, CatalogName, LoseDatafile, LoseLog, Remove, Damage, Cut, Rename, Corrupt, ListCorruption, BlockRecover}
use Rattle.rm_machine.specs.declared.nature.Nature.{Nature}
use Rattle.rm_machine.specs.declared.nature.Nature.TheVariants.{Changes, ChangesByHeld, Mishap, Records, TellsHeld, TellsState, TestsHeld, TriesByHeld, Unbuilt}

-- the nature of each form
abbrev pub nature_of : Command → Nature
nature_of (CreateDatabase dbid threads scn) = Changes
nature_of (CreateDatafile blocks) = Changes
nature_of (Write w) = Changes
nature_of (SwitchLogfile thread) = Changes
nature_of ArchiveLogCurrent = Changes
nature_of Mount = Changes
nature_of OpenPlain = Changes
nature_of OpenResetlogs = Changes
nature_of (Tracking on) = Changes
nature_of (SwitchThread thread on) = Changes
nature_of (ResetDatabase inc) = Changes
nature_of (Restore file until) = ChangesByHeld
nature_of (Preview until) = TellsHeld
nature_of (Recover until) = TriesByHeld
nature_of (RecoverTest until inc) = TestsHeld
nature_of (RecoverCopy tag until) = TriesByHeld
nature_of (Backup b) = Changes
nature_of (BackupFrom scn) = Changes
nature_of BackupLogs = TriesByHeld
nature_of (BlockRecover form) = TriesByHeld
nature_of (Crosscheck class) = ChangesByHeld
nature_of ValidateAll = TellsHeld
nature_of (ChangeBackup id to) = Changes
nature_of DeleteObsolete = ChangesByHeld
nature_of (DeleteBackup id) = Changes
nature_of (DeleteExpired class) = Changes
nature_of ReportObsolete = TellsHeld
nature_of ReportNeedBackup = TellsHeld
nature_of ReportSchema = TellsState
nature_of ListIncarnation = TellsState
nature_of ListBackup = TellsState
nature_of ListCopy = TellsState
nature_of ListArchived = TellsState
nature_of ListCorruption = TellsState
nature_of ShowAll = TellsState
nature_of (Dump file block) = TellsState
nature_of (Retention form) = Changes
nature_of (Parallelism channels) = Changes
nature_of (CatalogName name) = Records
nature_of (LoseDatafile file) = Changes
nature_of (LoseLog thread) = Changes
nature_of (Corrupt file block) = Changes
nature_of (Remove name) = Mishap
nature_of (Damage name at) = Mishap
nature_of (Cut name to) = Mishap
nature_of (Rename old new) = Mishap

-- the machine has a step for it
abbrev pub has_step : Nature → Bool
has_step Unbuilt = false
has_step TellsState = true
has_step TellsHeld = true
has_step TestsHeld = true
has_step Changes = true
has_step ChangesByHeld = true
has_step TriesByHeld = true
has_step Records = true
has_step Mishap = true

-- it tells, and changes nothing
abbrev pub tells : Nature → Bool
tells Unbuilt = false
tells TellsState = true
tells TellsHeld = true
tells TestsHeld = true
tells Changes = false
tells ChangesByHeld = false
tells TriesByHeld = false
tells Records = false
tells Mishap = false

-- it gives a name of an object
abbrev pub gives_name : Nature → Bool
gives_name Unbuilt = false
gives_name TellsState = false
gives_name TellsHeld = false
gives_name TestsHeld = false
gives_name Changes = false
gives_name ChangesByHeld = false
gives_name TriesByHeld = false
gives_name Records = true
gives_name Mishap = true

-- what the store has may refuse it
abbrev pub tries : Nature → Bool
tries Unbuilt = false
tries TellsState = false
tries TellsHeld = false
tries TestsHeld = true
tries Changes = false
tries ChangesByHeld = false
tries TriesByHeld = true
tries Records = true
tries Mishap = true

-- it goes by the state alone, whatever the store has
abbrev pub by_state : Nature → Bool
by_state Unbuilt = false
by_state TellsState = true
by_state TellsHeld = false
by_state TestsHeld = false
by_state Changes = true
by_state ChangesByHeld = false
by_state TriesByHeld = false
by_state Records = false
by_state Mishap = false
