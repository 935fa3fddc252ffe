-- The tokens of a command that passes the test are the command.
use Rattle.std.{specs.Option.{option_map}, proofs.Common.{◌≡◌, refl, ◌-◌, ◌^◌, ◌&&◌, ◌++◌, ℕ, List, Some, None, true, false}}
use Rattle.std.proofs.lemmas.Bool.{and_parts, and_from}
use Rattle.rm_base.specs.declared.kinds.Class.{Class, TheVariants.{Backup as BackupClass, Copy as CopyClass, Archived}}
use Rattle.rm_lang_token.specs.declared.token.Token.{Token}
use Rattle.rm_lang_grammar.specs.{Forms.{IsByOne}, Grammar.{in_range}, Spelling.{is_shown, is_capital_tag, maybe_valid, valid}}
use Rattle.rm_lang_grammar.proofs.Statements.{by_values}
use Rattle.rm_lang_reading.specs.Language.{mishap_forms, setting_forms, asking_forms, upkeep_forms, backup_forms, repair_forms, recovery_forms, mode_forms, switch_forms, forms}
use Rattle.rm_lang_reading.specs.Values.{write_values, until_values, incarnation_values, backup_values, from_values, repair_values, class_choice, change_choice, deletion_choice, retention_choice}
use Rattle.rm_lang_reading.specs.Creating.{create_database, write, create_datafile, switch_logfile, archive_log, track, untrack, enable_thread, disable_thread}
use Rattle.rm_lang_reading.specs.Modes.{shutdown, startup, reset_database, open_database}
use Rattle.rm_lang_reading.specs.{Recovering.{until_line, restore, restore_datafile, recover, recover_copy}, Repairs.{block_recover}}
use Rattle.rm_lang_reading.specs.Backups.{backup, backup_logs}
use Rattle.rm_lang_reading.specs.Upkeep.{crosscheck, crosscheck_line, validate, change, change_line, delete, delete_line}
use Rattle.rm_lang_reading.specs.Asking.{report_obsolete, report_need_backup, report_schema, list_incarnation, list_backup, list_copy, list_archived, list_corruption, show, dump}
use Rattle.rm_lang_reading.specs.Settings.{retention, retention_line, parallelism, catalog}
use Rattle.rm_lang_reading.specs.Mishaps.{lose_datafile, lose_log, corrupt, remove, damage, cut, rename}
use Rattle.rm_lang_reading.specs.declared.upkeep.Deletion.{Deletion, TheVariants.{Obsolete, One, Expired}}
use Rattle.rm_lang_reading.proofs.Parts.{until_again, incarnation_again, class_again, change_again, retention_again}
use Rattle.rm_lang_statement.specs.IsCommand.{is_command, is_until_or_none, is_retention}
use Rattle.rm_lang_statement.specs.{Texts.{content, anything, plain, is_new_name, new_name, is_text}, declared.command.ChangeTo.{ChangeTo}}
use Rattle.rm_lang_statement.specs.declared.command.ChangeTo.TheVariants.{Available, Unavailable, Uncatalog, Keep, NoKeep}
use Rattle.rm_lang_statement.specs.declared.command.RetentionForm.{RetentionForm, TheVariants.{Window, Redundancy, Nothing, Clear}}
use Rattle.rm_lang_statement.specs.declared.command.Command.{Command}
use Rattle.rm_lang_statement.specs.declared.command.Command.TheVariants.{CreateDatabase, CreateDatafile, Write, SwitchLogfile, ArchiveLogCurrent, Mount, OpenPlain, OpenResetlogs, Tracking, SwitchThread, ResetDatabase, Restore, Preview, Recover, RecoverTest, RecoverCopy, Backup, BackupFrom, BackupLogs, Crosscheck, ValidateAll, ChangeBackup, DeleteObsolete, DeleteBackup, DeleteExpired, ReportObsolete, ReportNeedBackup, ReportSchema, ListIncarnation, ListBackup, ListCopy, ListArchived, ShowAll, Dump, Retention, Parallelism, CatalogName, LoseDatafile, LoseLog, Remove, Damage, Cut, Rename, Corrupt, ListCorruption, BlockRecover}
use Rattle.rm_lang.{specs.Spelling.{tokens_of}, proofs.Strings.{shown-tested, until_valid, incarnation_valid}}
use Rattle.rm_lang.proofs.{Backups.{backup_valid, backup_means}, Repairs.{repair_valid, repair_again}}

names_valid : (old new : List ℕ) → (is_text anything old && is_text is_new_name new) ≡ true → (is_shown plain old && (is_shown new_name new && true)) ≡ true
names_valid old new h =
    let b = and_parts (is_text anything old) (is_text is_new_name new) h in
    rw (shown-tested anything old b.0, shown-tested is_new_name new b.1) refl

class_valid : (c : Class) → valid crosscheck_line (class_choice c, tt) ≡ true
class_valid BackupClass = refl
class_valid CopyClass = refl
class_valid Archived = refl

change_valid : (id : ℕ) (c : ChangeTo) → valid change_line (id, (change_choice c, tt)) ≡ true
change_valid id Available = refl
change_valid id Unavailable = refl
change_valid id Uncatalog = refl
change_valid id Keep = refl
change_valid id NoKeep = refl

deletion_valid : (d : Deletion) → valid delete_line (deletion_choice d, tt) ≡ true
deletion_valid Obsolete = refl
deletion_valid (One id) = refl
deletion_valid (Expired BackupClass) = refl
deletion_valid (Expired CopyClass) = refl
deletion_valid (Expired Archived) = refl

retention_valid : (r : RetentionForm) → is_retention r ≡ true → valid retention_line (retention_choice r, tt) ≡ true
retention_valid (Window days) h = rw h refl
retention_valid (Redundancy count) h = rw h refl
retention_valid Nothing h = refl
retention_valid Clear h = refl

pub tokens_of-is : (c : Command) → is_command c ≡ true → (rest : List Token) → IsByOne forms c (tokens_of c ++ rest) rest
unfolding mishap_forms setting_forms asking_forms upkeep_forms backup_forms repair_forms recovery_forms mode_forms switch_forms forms create_database write create_datafile switch_logfile archive_log track untrack enable_thread disable_thread shutdown startup reset_database open_database restore restore_datafile recover recover_copy block_recover backup backup_logs crosscheck validate change delete report_obsolete report_need_backup report_schema list_incarnation list_backup list_copy list_archived list_corruption show dump retention parallelism catalog lose_datafile lose_log corrupt remove damage cut rename
tokens_of-is (CreateDatabase dbid threads scn) h =
    let p = in_range 1 (2 ^ 32 - 1) in let q = in_range 1 (2 ^ 64 - 1) in let r = in_range 1 (2 ^ 48 - 1) in
    let b = and_parts (p dbid) (q threads && r scn) h in
    let d = and_parts (q threads) (r scn) b.1 in
    by_values forms 0 create_database (dbid, (threads, (scn, tt))) (CreateDatabase dbid threads scn) refl (rw (b.0, d.0, d.1) refl) refl
tokens_of-is (CreateDatafile blocks) h = by_values forms 2 create_datafile (blocks, tt) (CreateDatafile blocks) refl (and_from (in_range 1 (2 ^ 64 - 1) blocks) true h refl) refl
tokens_of-is (Write w) h = by_values forms 1 write (write_values w) (Write w) refl (and_from (is_shown content w.content.0) true h refl) refl
tokens_of-is (SwitchLogfile thread) h = by_values forms 3 switch_logfile (thread, tt) (SwitchLogfile thread) refl refl refl
tokens_of-is ArchiveLogCurrent h = by_values forms 4 archive_log tt ArchiveLogCurrent refl refl refl
tokens_of-is Mount h = by_values forms 10 startup tt Mount refl refl refl
tokens_of-is OpenPlain h = by_values forms 12 open_database (false, tt) OpenPlain refl refl refl
tokens_of-is OpenResetlogs h = by_values forms 12 open_database (true, tt) OpenResetlogs refl refl refl
tokens_of-is (Tracking true) h = by_values forms 5 track tt (Tracking true) refl refl refl
tokens_of-is (Tracking false) h = by_values forms 6 untrack tt (Tracking false) refl refl refl
tokens_of-is (SwitchThread thread true) h = by_values forms 7 enable_thread (thread, tt) (SwitchThread thread true) refl refl refl
tokens_of-is (SwitchThread thread false) h = by_values forms 8 disable_thread (thread, tt) (SwitchThread thread false) refl refl refl
tokens_of-is (ResetDatabase inc) h = by_values forms 11 reset_database (inc, tt) (ResetDatabase inc) refl refl refl
tokens_of-is (Restore None until) h =
    by_values forms 13 restore (option_map until_values until, (false, tt)) (Restore None until) refl (and_from (maybe_valid (valid until_line) (option_map until_values until)) true (until_valid until h) refl) (rw (until_again until) refl)
tokens_of-is (Restore (Some file) until) h =
    by_values forms 14 restore_datafile (file, (option_map until_values until, tt)) (Restore (Some file) until) refl (and_from (maybe_valid (valid until_line) (option_map until_values until)) true (until_valid until h) refl) (rw (until_again until) refl)
tokens_of-is (Preview until) h =
    by_values forms 13 restore (option_map until_values until, (true, tt)) (Preview until) refl (and_from (maybe_valid (valid until_line) (option_map until_values until)) true (until_valid until h) refl) (rw (until_again until) refl)
tokens_of-is (Recover until) h =
    by_values forms 15 recover (option_map until_values until, (None, (false, tt))) (Recover until) refl (and_from (maybe_valid (valid until_line) (option_map until_values until)) true (until_valid until h) refl) (rw (until_again until) refl)
tokens_of-is (RecoverTest until inc) h =
    by_values forms 15 recover (option_map until_values until, (option_map incarnation_values inc, (true, tt))) (RecoverTest until inc) refl (rw (until_valid until h, incarnation_valid inc) refl) (rw (until_again until, incarnation_again inc) refl)
tokens_of-is (RecoverCopy tag until) h =
    let b = and_parts (is_capital_tag tag) (is_until_or_none until) h in
    by_values forms 16 recover_copy (tag, (option_map until_values until, tt)) (RecoverCopy tag until) refl (rw (b.0, until_valid until b.1) refl) (rw (until_again until) refl)
tokens_of-is (Backup b) h = by_values forms 18 backup (backup_values b) (Backup b) refl (backup_valid b h) (backup_means b h)
tokens_of-is (BackupFrom scn) h = by_values forms 18 backup (from_values scn) (BackupFrom scn) refl refl refl
tokens_of-is BackupLogs h = by_values forms 19 backup_logs tt BackupLogs refl refl refl
tokens_of-is (BlockRecover form) h = by_values forms 17 block_recover (repair_values form) (BlockRecover form) refl (repair_valid form h) (rw (repair_again form h) refl)
tokens_of-is (Crosscheck class) h = by_values forms 20 crosscheck (class_choice class, tt) (Crosscheck class) refl (class_valid class) (rw (class_again class) refl)
tokens_of-is ValidateAll h = by_values forms 21 validate tt ValidateAll refl refl refl
tokens_of-is (ChangeBackup id to) h = by_values forms 22 change (id, (change_choice to, tt)) (ChangeBackup id to) refl (change_valid id to) (rw (change_again to) refl)
tokens_of-is DeleteObsolete h = by_values forms 23 delete (deletion_choice Obsolete, tt) DeleteObsolete refl (deletion_valid Obsolete) refl
tokens_of-is (DeleteBackup id) h = by_values forms 23 delete (deletion_choice (One id), tt) (DeleteBackup id) refl (deletion_valid (One id)) refl
tokens_of-is (DeleteExpired class) h = by_values forms 23 delete (deletion_choice (Expired class), tt) (DeleteExpired class) refl (deletion_valid (Expired class)) (rw (class_again class) refl)
tokens_of-is ReportObsolete h = by_values forms 24 report_obsolete tt ReportObsolete refl refl refl
tokens_of-is ReportNeedBackup h = by_values forms 25 report_need_backup tt ReportNeedBackup refl refl refl
tokens_of-is ReportSchema h = by_values forms 26 report_schema tt ReportSchema refl refl refl
tokens_of-is ListIncarnation h = by_values forms 27 list_incarnation tt ListIncarnation refl refl refl
tokens_of-is ListBackup h = by_values forms 28 list_backup tt ListBackup refl refl refl
tokens_of-is ListCopy h = by_values forms 29 list_copy tt ListCopy refl refl refl
tokens_of-is ListArchived h = by_values forms 30 list_archived tt ListArchived refl refl refl
tokens_of-is ListCorruption h = by_values forms 31 list_corruption tt ListCorruption refl refl refl
tokens_of-is ShowAll h = by_values forms 32 show tt ShowAll refl refl refl
tokens_of-is (Dump file block) h = by_values forms 33 dump (file, (block, tt)) (Dump file block) refl refl refl
tokens_of-is (Retention form) h = by_values forms 34 retention (retention_choice form, tt) (Retention form) refl (retention_valid form h) (rw (retention_again form) refl)
tokens_of-is (Parallelism channels) h = by_values forms 35 parallelism (channels, tt) (Parallelism channels) refl (and_from (in_range 1 (2 ^ 64 - 1) channels) true h refl) refl
tokens_of-is (CatalogName name) h = by_values forms 36 catalog (name, tt) (CatalogName name) refl (and_from (is_shown plain name) true (shown-tested anything name h) refl) refl
tokens_of-is (LoseDatafile file) h = by_values forms 37 lose_datafile (file, tt) (LoseDatafile file) refl refl refl
tokens_of-is (LoseLog thread) h = by_values forms 38 lose_log (thread, tt) (LoseLog thread) refl refl refl
tokens_of-is (Corrupt file block) h = by_values forms 39 corrupt (file, (block, tt)) (Corrupt file block) refl refl refl
tokens_of-is (Remove name) h = by_values forms 40 remove (name, tt) (Remove name) refl (and_from (is_shown plain name) true (shown-tested anything name h) refl) refl
tokens_of-is (Damage name at) h = by_values forms 41 damage (name, (at, tt)) (Damage name at) refl (and_from (is_shown plain name) true (shown-tested anything name h) refl) refl
tokens_of-is (Cut name to) h = by_values forms 42 cut (name, (to, tt)) (Cut name to) refl (and_from (is_shown plain name) true (shown-tested anything name h) refl) refl
tokens_of-is (Rename old new) h = by_values forms 43 rename (old, (new, tt)) (Rename old new) refl (names_valid old new h) refl
