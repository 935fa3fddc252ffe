-- Which commands are statements of the grammar.
use Rattle.std.specs.{Prelude.{◌-◌, ◌^◌, ◌&&◌, Bool, true, Option}, List.{list_all}}
use Rattle.rm_lang_grammar.specs.{Grammar.{in_range}, Spelling.{is_capital_tag, is_shown, maybe_valid}}
use Rattle.rm_lang_statement.specs.{Named.{are_named}, Texts.{content, anything, is_new_name, is_text}, Agreed.{agrees}}
use Rattle.rm_lang_statement.specs.declared.command.{Until.{Until, TheVariants.{Scn, Sequence, Time}}, WriteForm.{WriteForm}}
use Rattle.rm_lang_statement.specs.declared.command.{BackupForm.{BackupForm}, NamedBlocks.{NamedBlocks}, RepairForm.{RepairForm}}
use Rattle.rm_lang_statement.specs.declared.command.RetentionForm.{RetentionForm, TheVariants.{Window, Redundancy, Nothing, Clear}}
use Rattle.rm_lang_statement.specs.declared.command.Command.{Command}
use Rattle.rm_lang_statement.specs.declared.command.Command.TheVariants.{CreateDatabase, CreateDatafile, Write, SwitchLogfile, ArchiveLogCurrent, Mount, OpenPlain, OpenResetlogs, Tracking, SwitchThread, ResetDatabase, Restore, Preview, Recover, RecoverTest, RecoverCopy, Backup, BackupLogs, BackupFrom, Crosscheck, ValidateAll, ChangeBackup, DeleteObsolete, DeleteBackup, DeleteExpired, ReportObsolete, ReportNeedBackup, ReportSchema, ListIncarnation, ListBackup, ListCopy, ListArchived, ShowAll, Dump, Retention, Parallelism, CatalogName, LoseDatafile, LoseLog, Remove, Damage, Cut, Rename, Corrupt, ListCorruption, BlockRecover}
use Rattle.rm_lang_statement.specs.declared.command.Inner.{Inner, TheVariants.{SetUntil, AllocateChannel, Plain as PlainInner}}
use Rattle.rm_lang_statement.specs.declared.command.Statement.{Statement, TheVariants.{Plain, Run}}
use Rattle.rm_moments.specs.Times.{is_time_text}

-- a text that is kept means a moment
abbrev pub is_until : Until → Bool
is_until (Scn n) = true
is_until (Sequence sequence thread) = true
is_until (Time w) = is_text is_time_text w

abbrev pub is_until_or_none : Option Until → Bool
is_until_or_none until = maybe_valid is_until until

-- a content that a VALUE has
abbrev pub is_write : WriteForm → Bool
is_write w = is_shown content w.content.0

-- a backup of level 0 or 1 or none, of all datafiles or of one and more in order, in sets of 1 to 64 or none, with tags in capitals or none, whose parts can stand together
abbrev pub is_backup : BackupForm → Bool
is_backup b =
    (maybe_valid (in_range 0 1) b.level && (maybe_valid are_named b.files && (maybe_valid (in_range 1 64) b.files_per_set && (maybe_valid is_capital_tag b.tag && (maybe_valid is_capital_tag b.merge_tag && maybe_valid (list_all is_write) b.during)))))
    && agrees b.copy b

-- blocks that a statement names: one or more, in order
abbrev pub is_named : NamedBlocks → Bool
is_named n = are_named n.blocks

-- a repair of all damaged blocks, or of those that are named
abbrev pub is_repair : RepairForm → Bool
is_repair r = maybe_valid is_named r.blocks && maybe_valid (list_all is_write) r.during

-- no count of 0
abbrev pub is_retention : RetentionForm → Bool
is_retention (Window days) = in_range 1 (2 ^ 64 - 1) days
is_retention (Redundancy count) = in_range 1 (2 ^ 64 - 1) count
is_retention Nothing = true
is_retention Clear = true

-- The command is one of a statement.
abbrev pub is_command : Command → Bool
is_command (CreateDatabase dbid threads scn) = in_range 1 (2 ^ 32 - 1) dbid && (in_range 1 (2 ^ 64 - 1) threads && in_range 1 (2 ^ 48 - 1) scn)
is_command (CreateDatafile blocks) = in_range 1 (2 ^ 64 - 1) blocks
is_command (Write w) = is_write w
is_command (SwitchLogfile thread) = true
is_command ArchiveLogCurrent = true
is_command Mount = true
is_command OpenPlain = true
is_command OpenResetlogs = true
is_command (Tracking on) = true
is_command (SwitchThread thread on) = true
is_command (ResetDatabase inc) = true
is_command (Restore file until) = is_until_or_none until
is_command (Preview until) = is_until_or_none until
is_command (Recover until) = is_until_or_none until
is_command (RecoverTest until inc) = is_until_or_none until
is_command (RecoverCopy tag until) = is_capital_tag tag && is_until_or_none until
is_command (Backup b) = is_backup b
is_command BackupLogs = true
is_command (BackupFrom scn) = true
is_command (BlockRecover form) = is_repair form
is_command (Crosscheck class) = true
is_command ValidateAll = true
is_command (ChangeBackup id to) = true
is_command DeleteObsolete = true
is_command (DeleteBackup id) = true
is_command (DeleteExpired class) = true
is_command ReportObsolete = true
is_command ReportNeedBackup = true
is_command ReportSchema = true
is_command ListIncarnation = true
is_command ListBackup = true
is_command ListCopy = true
is_command ListArchived = true
is_command ListCorruption = true
is_command ShowAll = true
is_command (Dump file block) = true
is_command (Retention form) = is_retention form
is_command (Parallelism channels) = in_range 1 (2 ^ 64 - 1) channels
is_command (CatalogName name) = is_text anything name
is_command (LoseDatafile file) = true
is_command (LoseLog thread) = true
is_command (Corrupt file block) = true
is_command (Remove name) = is_text anything name
is_command (Damage name at) = is_text anything name
is_command (Cut name to) = is_text anything name
is_command (Rename old new) = is_text anything old && is_text is_new_name new

abbrev pub is_inner : Inner → Bool
is_inner (PlainInner c) = is_command c
is_inner (SetUntil until) = is_until until
is_inner AllocateChannel = true

-- Some tokens are the statement.
abbrev pub is_statement : Statement → Bool
is_statement (Plain c) = is_command c
is_statement (Run inner) = list_all is_inner inner
