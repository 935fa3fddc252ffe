-- Each command is spelled by a line, in which the statement ends at the last token alone.
use Rattle.std.{specs.Option.{option_map}, proofs.Common.{◌≡◌, refl, List, Some, None, true, false}}
use Rattle.rm_lang_token.specs.declared.token.Token.{Token}
use Rattle.rm_lang_grammar.{specs.{Grammar.{Grammar, Values}, Spelling.{spelled}, Endings.{quiet}}, proofs.Endings.{starts_quietly}}
use Rattle.rm_lang_reading.specs.Creating.{create_database_line, write_line, create_datafile_line, switch_logfile_line, archive_log_line, track_line, untrack_line, enable_thread_line, disable_thread_line}
use Rattle.rm_lang_reading.specs.Modes.{startup_line, reset_database_line, open_database_line}
use Rattle.rm_lang_reading.specs.Recovering.{restore_line, restore_datafile_line, recover_line, recover_copy_line}
use Rattle.rm_lang_reading.specs.{Repairs.{block_recover_line}, Backups.{backup_line, backup_logs_line}}
use Rattle.rm_lang_reading.specs.Upkeep.{crosscheck_line, validate_line, change_line, delete_line}
use Rattle.rm_lang_reading.specs.Asking.{report_obsolete_line, report_need_backup_line, report_schema_line, list_incarnation_line, list_backup_line, list_copy_line, list_archived_line, list_corruption_line, show_line, dump_line}
use Rattle.rm_lang_reading.specs.Settings.{retention_line, parallelism_line, catalog_line}
use Rattle.rm_lang_reading.specs.Mishaps.{lose_datafile_line, lose_log_line, corrupt_line, remove_line, damage_line, cut_line, rename_line}
use Rattle.rm_lang_reading.specs.Values.{write_values, until_values, incarnation_values, backup_values, from_values, repair_values, class_choice, change_choice, deletion_choice, retention_choice}
use Rattle.rm_lang_reading.specs.declared.upkeep.Deletion.TheVariants.{Obsolete, One, Expired}
use Rattle.rm_lang_statement.specs.declared.command.Command.{Command}
use Rattle.rm_lang_statement.specs.declared.command.Command.TheVariants.{CreateDatabase, CreateDatafile, Write, SwitchLogfile, ArchiveLogCurrent, Mount, OpenPlain, OpenResetlogs, Tracking, SwitchThread, ResetDatabase, Restore, Preview, Recover, RecoverTest, RecoverCopy, Backup, BackupFrom, BackupLogs, Crosscheck, ValidateAll, ChangeBackup, DeleteObsolete, DeleteBackup, DeleteExpired, ReportObsolete, ReportNeedBackup, ReportSchema, ListIncarnation, ListBackup, ListCopy, ListArchived, ShowAll, Dump, Retention, Parallelism, CatalogName, LoseDatafile, LoseLog, Remove, Damage, Cut, Rename, Corrupt, ListCorruption, BlockRecover}
use Rattle.rm_lang.specs.Spelling.{tokens_of}

-- the tokens spell a line in which a statement ends at the last token, and none where a brace of a RUN is open
pub record IsLine (ts : List Token) : Type 0 where
  pub line : Grammar
  pub values : Values line
  pub is : ts ≡ spelled line values
  pub alone : starts_quietly line ≡ true
  pub inside : quiet true line 1 (Some 1) ≡ true

pub told : (c : Command) → IsLine (tokens_of c)
told (CreateDatabase dbid threads scn) = record { line = create_database_line; values = (dbid, (threads, (scn, tt))); is = refl; alone = refl; inside = refl }
told (CreateDatafile blocks) = record { line = create_datafile_line; values = (blocks, tt); is = refl; alone = refl; inside = refl }
told (Write w) = record { line = write_line; values = (write_values w); is = refl; alone = refl; inside = refl }
told (SwitchLogfile thread) = record { line = switch_logfile_line; values = (thread, tt); is = refl; alone = refl; inside = refl }
told ArchiveLogCurrent = record { line = archive_log_line; values = tt; is = refl; alone = refl; inside = refl }
told Mount = record { line = startup_line; values = tt; is = refl; alone = refl; inside = refl }
told OpenPlain = record { line = open_database_line; values = (false, tt); is = refl; alone = refl; inside = refl }
told OpenResetlogs = record { line = open_database_line; values = (true, tt); is = refl; alone = refl; inside = refl }
told (Tracking true) = record { line = track_line; values = tt; is = refl; alone = refl; inside = refl }
told (Tracking false) = record { line = untrack_line; values = tt; is = refl; alone = refl; inside = refl }
told (SwitchThread thread true) = record { line = enable_thread_line; values = (thread, tt); is = refl; alone = refl; inside = refl }
told (SwitchThread thread false) = record { line = disable_thread_line; values = (thread, tt); is = refl; alone = refl; inside = refl }
told (ResetDatabase inc) = record { line = reset_database_line; values = (inc, tt); is = refl; alone = refl; inside = refl }
told (Restore None until) = record { line = restore_line; values = (option_map until_values until, (false, tt)); is = refl; alone = refl; inside = refl }
told (Restore (Some file) until) = record { line = restore_datafile_line; values = (file, (option_map until_values until, tt)); is = refl; alone = refl; inside = refl }
told (Preview until) = record { line = restore_line; values = (option_map until_values until, (true, tt)); is = refl; alone = refl; inside = refl }
told (Recover until) = record { line = recover_line; values = (option_map until_values until, (None, (false, tt))); is = refl; alone = refl; inside = refl }
told (RecoverTest until inc) = record { line = recover_line; values = (option_map until_values until, (option_map incarnation_values inc, (true, tt))); is = refl; alone = refl; inside = refl }
told (RecoverCopy tag until) = record { line = recover_copy_line; values = (tag, (option_map until_values until, tt)); is = refl; alone = refl; inside = refl }
told (Backup b) = record { line = backup_line; values = (backup_values b); is = refl; alone = refl; inside = refl }
told (BackupFrom scn) = record { line = backup_line; values = from_values scn; is = refl; alone = refl; inside = refl }
told BackupLogs = record { line = backup_logs_line; values = tt; is = refl; alone = refl; inside = refl }
told (BlockRecover form) = record { line = block_recover_line; values = repair_values form; is = refl; alone = refl; inside = refl }
told (Crosscheck class) = record { line = crosscheck_line; values = (class_choice class, tt); is = refl; alone = refl; inside = refl }
told ValidateAll = record { line = validate_line; values = tt; is = refl; alone = refl; inside = refl }
told (ChangeBackup id to) = record { line = change_line; values = (id, (change_choice to, tt)); is = refl; alone = refl; inside = refl }
told DeleteObsolete = record { line = delete_line; values = (deletion_choice Obsolete, tt); is = refl; alone = refl; inside = refl }
told (DeleteBackup id) = record { line = delete_line; values = (deletion_choice (One id), tt); is = refl; alone = refl; inside = refl }
told (DeleteExpired class) = record { line = delete_line; values = (deletion_choice (Expired class), tt); is = refl; alone = refl; inside = refl }
told ReportObsolete = record { line = report_obsolete_line; values = tt; is = refl; alone = refl; inside = refl }
told ReportNeedBackup = record { line = report_need_backup_line; values = tt; is = refl; alone = refl; inside = refl }
told ReportSchema = record { line = report_schema_line; values = tt; is = refl; alone = refl; inside = refl }
told ListIncarnation = record { line = list_incarnation_line; values = tt; is = refl; alone = refl; inside = refl }
told ListBackup = record { line = list_backup_line; values = tt; is = refl; alone = refl; inside = refl }
told ListCopy = record { line = list_copy_line; values = tt; is = refl; alone = refl; inside = refl }
told ListArchived = record { line = list_archived_line; values = tt; is = refl; alone = refl; inside = refl }
told ListCorruption = record { line = list_corruption_line; values = tt; is = refl; alone = refl; inside = refl }
told ShowAll = record { line = show_line; values = tt; is = refl; alone = refl; inside = refl }
told (Dump file block) = record { line = dump_line; values = (file, (block, tt)); is = refl; alone = refl; inside = refl }
told (Retention form) = record { line = retention_line; values = (retention_choice form, tt); is = refl; alone = refl; inside = refl }
told (Parallelism channels) = record { line = parallelism_line; values = (channels, tt); is = refl; alone = refl; inside = refl }
told (CatalogName name) = record { line = catalog_line; values = (name, tt); is = refl; alone = refl; inside = refl }
told (LoseDatafile file) = record { line = lose_datafile_line; values = (file, tt); is = refl; alone = refl; inside = refl }
told (LoseLog thread) = record { line = lose_log_line; values = (thread, tt); is = refl; alone = refl; inside = refl }
told (Corrupt file block) = record { line = corrupt_line; values = (file, (block, tt)); is = refl; alone = refl; inside = refl }
told (Remove name) = record { line = remove_line; values = (name, tt); is = refl; alone = refl; inside = refl }
told (Damage name at) = record { line = damage_line; values = (name, (at, tt)); is = refl; alone = refl; inside = refl }
told (Cut name to) = record { line = cut_line; values = (name, (to, tt)); is = refl; alone = refl; inside = refl }
told (Rename old new_name) = record { line = rename_line; values = (old, (new_name, tt)); is = refl; alone = refl; inside = refl }
