-- The tokens that spell a statement, and text that is read back.
use Rattle.std.specs.{Prelude.{◌≡◌, ℕ, List, [], ◌∷◌, ◌++◌, Some, None, true, false, codes}, List.{flat_map}, Option.{option_map}}
use Rattle.rm_lang_token.specs.{Statements.{statements}, declared.token.Token.{Token, TheVariants.{Word, Sign}}}
use Rattle.rm_lang_grammar.specs.Spelling.{spelled}
use Rattle.rm_lang_reading.specs.Creating.{create_database_line, write_line, create_datafile_line, switch_logfile_line, archive_log_line, track_line, untrack_line, enable_thread_line, disable_thread_line}
use Rattle.rm_lang_reading.specs.Modes.{startup_line, reset_database_line, open_database_line}
use Rattle.rm_lang_reading.specs.Recovering.{restore_line, restore_datafile_line, recover_line, recover_copy_line}
use Rattle.rm_lang_reading.specs.{Repairs.{block_recover_line}, Backups.{backup_line, backup_logs_line}}
use Rattle.rm_lang_reading.specs.Upkeep.{crosscheck_line, validate_line, change_line, delete_line}
use Rattle.rm_lang_reading.specs.Asking.{report_obsolete_line, report_need_backup_line, report_schema_line, list_incarnation_line, list_backup_line, list_copy_line, list_archived_line, list_corruption_line, show_line, dump_line}
use Rattle.rm_lang_reading.specs.Settings.{retention_line, parallelism_line, catalog_line}
use Rattle.rm_lang_reading.specs.Mishaps.{lose_datafile_line, lose_log_line, corrupt_line, remove_line, damage_line, cut_line, rename_line}
use Rattle.rm_lang_reading.specs.Language.{set_until_line, allocate_line, IsStatement}
use Rattle.rm_lang_reading.specs.Values.{write_values, until_values, incarnation_values, backup_values, from_values, repair_values, class_choice, change_choice, deletion_choice, retention_choice}
use Rattle.rm_lang_reading.specs.declared.upkeep.Deletion.TheVariants.{Obsolete, One, Expired}
use Rattle.rm_lang_statement.specs.declared.command.Command.{Command}
use Rattle.rm_lang_statement.specs.declared.command.Command.TheVariants.{CreateDatabase, CreateDatafile, Write, SwitchLogfile, ArchiveLogCurrent, Mount, OpenPlain, OpenResetlogs, Tracking, SwitchThread, ResetDatabase, Restore, Preview, Recover, RecoverTest, RecoverCopy, Backup, BackupFrom, BackupLogs, Crosscheck, ValidateAll, ChangeBackup, DeleteObsolete, DeleteBackup, DeleteExpired, ReportObsolete, ReportNeedBackup, ReportSchema, ListIncarnation, ListBackup, ListCopy, ListArchived, ShowAll, Dump, Retention, Parallelism, CatalogName, LoseDatafile, LoseLog, Remove, Damage, Cut, Rename, Corrupt, ListCorruption, BlockRecover}
use Rattle.rm_lang_statement.specs.declared.command.Inner.{Inner, TheVariants.{SetUntil, AllocateChannel, Plain as PlainInner}}
use Rattle.rm_lang_statement.specs.declared.command.Statement.{Statement, TheVariants.{Plain, Run}}

-- the tokens that spell the command
abbrev pub tokens_of : Command → List Token
tokens_of (CreateDatabase dbid threads scn) = spelled create_database_line (dbid, (threads, (scn, tt)))
tokens_of (CreateDatafile blocks) = spelled create_datafile_line (blocks, tt)
tokens_of (Write w) = spelled write_line (write_values w)
tokens_of (SwitchLogfile thread) = spelled switch_logfile_line (thread, tt)
tokens_of ArchiveLogCurrent = spelled archive_log_line tt
tokens_of Mount = spelled startup_line tt
tokens_of OpenPlain = spelled open_database_line (false, tt)
tokens_of OpenResetlogs = spelled open_database_line (true, tt)
tokens_of (Tracking true) = spelled track_line tt
tokens_of (Tracking false) = spelled untrack_line tt
tokens_of (SwitchThread thread true) = spelled enable_thread_line (thread, tt)
tokens_of (SwitchThread thread false) = spelled disable_thread_line (thread, tt)
tokens_of (ResetDatabase inc) = spelled reset_database_line (inc, tt)
tokens_of (Restore None until) = spelled restore_line (option_map until_values until, (false, tt))
tokens_of (Restore (Some file) until) = spelled restore_datafile_line (file, (option_map until_values until, tt))
tokens_of (Preview until) = spelled restore_line (option_map until_values until, (true, tt))
tokens_of (Recover until) = spelled recover_line (option_map until_values until, (None, (false, tt)))
tokens_of (RecoverTest until inc) = spelled recover_line (option_map until_values until, (option_map incarnation_values inc, (true, tt)))
tokens_of (RecoverCopy tag until) = spelled recover_copy_line (tag, (option_map until_values until, tt))
tokens_of (Backup b) = spelled backup_line (backup_values b)
tokens_of (BackupFrom scn) = spelled backup_line (from_values scn)
tokens_of BackupLogs = spelled backup_logs_line tt
tokens_of (BlockRecover form) = spelled block_recover_line (repair_values form)
tokens_of (Crosscheck class) = spelled crosscheck_line (class_choice class, tt)
tokens_of ValidateAll = spelled validate_line tt
tokens_of (ChangeBackup id to) = spelled change_line (id, (change_choice to, tt))
tokens_of DeleteObsolete = spelled delete_line (deletion_choice Obsolete, tt)
tokens_of (DeleteBackup id) = spelled delete_line (deletion_choice (One id), tt)
tokens_of (DeleteExpired class) = spelled delete_line (deletion_choice (Expired class), tt)
tokens_of ReportObsolete = spelled report_obsolete_line tt
tokens_of ReportNeedBackup = spelled report_need_backup_line tt
tokens_of ReportSchema = spelled report_schema_line tt
tokens_of ListIncarnation = spelled list_incarnation_line tt
tokens_of ListBackup = spelled list_backup_line tt
tokens_of ListCopy = spelled list_copy_line tt
tokens_of ListArchived = spelled list_archived_line tt
tokens_of ListCorruption = spelled list_corruption_line tt
tokens_of ShowAll = spelled show_line tt
tokens_of (Dump file block) = spelled dump_line (file, (block, tt))
tokens_of (Retention form) = spelled retention_line (retention_choice form, tt)
tokens_of (Parallelism channels) = spelled parallelism_line (channels, tt)
tokens_of (CatalogName name) = spelled catalog_line (name, tt)
tokens_of (LoseDatafile file) = spelled lose_datafile_line (file, tt)
tokens_of (LoseLog thread) = spelled lose_log_line (thread, tt)
tokens_of (Corrupt file block) = spelled corrupt_line (file, (block, tt))
tokens_of (Remove name) = spelled remove_line (name, tt)
tokens_of (Damage name at) = spelled damage_line (name, (at, tt))
tokens_of (Cut name to) = spelled cut_line (name, (to, tt))
tokens_of (Rename old new_name) = spelled rename_line (old, (new_name, tt))

abbrev pub inner_tokens : Inner → List Token
inner_tokens (PlainInner c) = tokens_of c
inner_tokens (SetUntil until) = spelled set_until_line (until_values until)
inner_tokens AllocateChannel = spelled allocate_line tt

-- the tokens that spell the statement
abbrev pub statement_tokens : Statement → List Token
statement_tokens (Plain c) = tokens_of c
statement_tokens (Run inner) = Word (codes "RUN") ∷ Sign 123 ∷ (flat_map inner_tokens inner ++ Sign 125 ∷ [])

-- the bytes are one statement, which is this one
pub record ReadsAs (bytes : List ℕ) (s : Statement) : Type 0 where
  pub tokens : List Token
  pub alone : statements bytes ≡ (1, tokens) ∷ []
  pub statement : IsStatement tokens s
