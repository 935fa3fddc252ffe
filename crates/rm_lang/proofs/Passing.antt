-- Which commands are statements: what each form means passes the test.
use Rattle.std.specs.Option.{option_map}
use Rattle.std.proofs.Common.{◌≡◌, refl, subst, sym, ◌==◌, ◌-◌, ◌^◌, ◌&&◌, ◌||◌, ℕ, List, Option, Some, None, Bool, true, false, codes}
use Rattle.std.proofs.lemmas.Bool.{and_parts, and_from, eqb-true}
use Rattle.rm_lang_grammar.specs.Grammar.{◌▸◌, word, end, Values, Choice, first, second, in_range}
use Rattle.rm_lang_grammar.{specs.Spelling.{is_shown, is_capital_tag, maybe_valid, one_valid, valid, AreFaithful}, proofs.Found.{some_same}}
use Rattle.rm_lang_grammar.proofs.Statements.{Passes, AllPass}
use Rattle.rm_moments.specs.Times.{is_time_text}
use Rattle.rm_lang_reading.specs.Language.{mishap_forms, setting_forms, asking_forms, upkeep_forms, backup_forms, repair_forms, recovery_forms, mode_forms, switch_forms, forms}
use Rattle.rm_lang_reading.specs.Creating.{create_database, write, written, create_datafile, switch_logfile, archive_log, track, untrack, enable_thread, disable_thread}
use Rattle.rm_lang_reading.specs.Modes.{shutdown, startup, reset_database, open_database, open_command}
use Rattle.rm_lang_reading.specs.Recovering.{until_line, until_of, incarnation_line, incarnation_of, restoring, restore, restore_datafile, recovery, recover, recover_copy}
use Rattle.rm_lang_reading.specs.{Repairs.{block_recover, repair_of}, Backups.{backup, backup_logs}}
use Rattle.rm_lang_reading.specs.Upkeep.{class_by, crosscheck, validate, change_by, change, deletion_by, deleting, delete}
use Rattle.rm_lang_reading.specs.Asking.{report_obsolete, report_need_backup, report_schema, list_incarnation, list_backup, list_copy, list_archived, list_corruption, show, dump}
use Rattle.rm_lang_reading.specs.Settings.{window_part, redundancy_part, redundancy_or_none, policy_part, redundancy_or_none_by, policy_by, retention_by, retention, parallelism, catalog}
use Rattle.rm_lang_reading.specs.Mishaps.{lose_datafile, lose_log, corrupt, remove, damage, cut, rename}
use Rattle.rm_lang_reading.specs.declared.upkeep.Deletion.{Deletion, TheVariants.{Obsolete, One, Expired}}
use Rattle.rm_lang_statement.specs.IsCommand.{is_command, is_until_or_none, is_retention}
use Rattle.rm_lang_statement.specs.{Texts.{content, anything, plain, is_new_name, new_name, is_text}, declared.command.Until.{Until}}
use Rattle.rm_lang_statement.specs.declared.command.Command.{Command}
use Rattle.rm_lang_statement.specs.declared.command.Command.TheVariants.{CreateDatabase, CreateDatafile, Write, SwitchLogfile, ArchiveLogCurrent, Mount, Tracking, SwitchThread, ResetDatabase, Restore, RecoverCopy, BackupLogs, Crosscheck, ValidateAll, ChangeBackup, ReportObsolete, ReportNeedBackup, ReportSchema, ListIncarnation, ListBackup, ListCopy, ListArchived, ShowAll, Dump, Retention, Parallelism, CatalogName, LoseDatafile, LoseLog, Remove, Damage, Cut, Rename, Corrupt, ListCorruption, BlockRecover}
use Rattle.rm_lang.proofs.{Contents.{content-faithful}, Strings.{tested-faithful, tested-shown, until_passes}, Backups.{backup_passes}}
use Rattle.rm_lang.proofs.Repairs.{repair_passes}

-- the command that a form means passes the test
by_meaning : (c d : Command) → is_command c ≡ true → Some c ≡ Some d → is_command d ≡ true
by_meaning c d h m = subst (λ e. is_command e ≡ true) (some_same m) h

-- a number that is left out is in the range as well
or_in : (d n : ℕ) (p : ℕ → Bool) → p d ≡ true → (p n || (n == d)) ≡ true → p n ≡ true
or_in d n p h e = by_test (n == d) (p n) refl refl e
  where
    by_test : (t q : Bool) → (n == d) ≡ t → p n ≡ q → (q || t) ≡ true → p n ≡ true
    by_test t true same passed k = passed
    by_test true false same passed k = subst (λ m. p m ≡ true) (sym (eqb-true n d same)) h
    by_test false false same passed k = absurd (cc)

opening_passes : (resetlogs : Bool) → is_command (open_command resetlogs) ≡ true
opening_passes true = refl
opening_passes false = refl

both_names : (old new : List ℕ) → (is_shown plain old && (is_shown new_name new && true)) ≡ true → (is_text anything old && is_text is_new_name new) ≡ true
both_names old new h =
    let b = and_parts (is_shown plain old) (is_shown new_name new && true) h in
    and_from (is_text anything old) (is_text is_new_name new) (tested-shown anything old b.0) (tested-shown is_new_name new (and_parts (is_shown new_name new) true b.1).0)

-- the kinds of strings of an UNTIL
pub until_faithful : AreFaithful until_line
until_faithful = (tt, (tt, (tested-faithful is_time_text, tt), tt), tt)

create_database_passes : Passes is_command create_database
unfolding create_database
create_database_passes = record {
  are_faithful = tt;
  passed = λ vs c v m.
      let p = in_range 1 (2 ^ 32 - 1) in let q = in_range 1 (2 ^ 64 - 1) in let r = in_range 1 (2 ^ 48 - 1) in
      let a = and_parts (p vs.0 || (vs.0 == 1)) ((q vs.1.0 || (vs.1.0 == 1)) && ((r vs.1.1.0 || (vs.1.1.0 == 1)) && true)) v in
      let b = and_parts (q vs.1.0 || (vs.1.0 == 1)) ((r vs.1.1.0 || (vs.1.1.0 == 1)) && true) a.1 in
      let d = and_parts (r vs.1.1.0 || (vs.1.1.0 == 1)) true b.1 in
      let later = and_from (q vs.1.0) (r vs.1.1.0) (or_in 1 vs.1.0 q refl b.0) (or_in 1 vs.1.1.0 r refl d.0) in
      by_meaning (CreateDatabase vs.0 vs.1.0 vs.1.1.0) c (and_from (p vs.0) (q vs.1.0 && r vs.1.1.0) (or_in 1 vs.0 p refl a.0) later) m;
}

write_passes : Passes is_command write
unfolding write
write_passes = record { are_faithful = (content-faithful, tt); passed = λ vs c v m. by_meaning (Write (written vs)) c (and_parts (is_shown content vs.1.1.1.0) true v).0 m }

open_database_passes : Passes is_command open_database
unfolding open_database
open_database_passes = record { are_faithful = tt; passed = λ vs c v m. by_meaning (open_command vs.0) c (opening_passes vs.0) m }

restoring_passes : (until : Option Until) (preview : Bool) → is_until_or_none until ≡ true → is_command (restoring until preview) ≡ true
restoring_passes until true h = h
restoring_passes until false h = h

restore_passes : Passes is_command restore
unfolding restore
restore_passes = record {
  are_faithful = (until_faithful, tt);
  passed = λ vs c v m. by_meaning (restoring (option_map until_of vs.0) vs.1.0) c (restoring_passes (option_map until_of vs.0) vs.1.0 (until_passes vs.0 (and_parts (maybe_valid (valid until_line) vs.0) true v).0)) m;
}

restore_datafile_passes : Passes is_command restore_datafile
unfolding restore_datafile
restore_datafile_passes = record {
  are_faithful = (until_faithful, tt);
  passed = λ vs c v m. by_meaning (Restore (Some vs.0) (option_map until_of vs.1.0)) c (until_passes vs.1.0 (and_parts (maybe_valid (valid until_line) vs.1.0) true v).0) m;
}

recovery_passes : (until : Option Until) (inc : Option ℕ) (test : Bool) (c : Command) → is_until_or_none until ≡ true → recovery until inc test ≡ Some c → is_command c ≡ true
recovery_passes until inc true c h e = subst (λ d. is_command d ≡ true) (some_same e) h
recovery_passes until None false c h e = subst (λ d. is_command d ≡ true) (some_same e) h
recovery_passes until (Some n) false c h e = absurd (cc)

recover_passes : Passes is_command recover
unfolding recover
recover_passes = record {
  are_faithful = (until_faithful, (tt, tt));
  passed = λ vs c v m.
      let b = and_parts (maybe_valid (valid until_line) vs.0) (maybe_valid (valid incarnation_line) vs.1.0 && true) v in
      recovery_passes (option_map until_of vs.0) (option_map incarnation_of vs.1.0) vs.1.1.0 c (until_passes vs.0 b.0) m;
}

recover_copy_passes : Passes is_command recover_copy
unfolding recover_copy
recover_copy_passes = record {
  are_faithful = (until_faithful, tt);
  passed = λ vs c v m.
      let b = and_parts (is_capital_tag vs.0) (maybe_valid (valid until_line) vs.1.0 && true) v in
      let u = until_passes vs.1.0 (and_parts (maybe_valid (valid until_line) vs.1.0) true b.1).0 in
      by_meaning (RecoverCopy vs.0 (option_map until_of vs.1.0)) c (and_from (is_capital_tag vs.0) (is_until_or_none (option_map until_of vs.1.0)) b.0 u) m;
}

backup_form_passes : Passes is_command backup
unfolding backup
backup_form_passes = record {
  are_faithful = ((tt, tt, tt), ((tt, tt, tt), (tt, (tt, tt, (tt, (tt, (tt, ((((content-faithful, tt), tt)), tt))))))));
  passed = backup_passes;
}

block_recover_passes : Passes is_command block_recover
unfolding block_recover
block_recover_passes = record {
  are_faithful = (tt, tt, (((content-faithful, tt), tt), tt));
  passed = λ vs c v m. by_meaning (BlockRecover (repair_of vs)) c (repair_passes vs v) m;
}

backup_logs_passes : Passes is_command backup_logs
unfolding backup_logs
backup_logs_passes = record { are_faithful = tt; passed = λ vs c v m. by_meaning BackupLogs c refl m }

crosscheck_passes : Passes is_command crosscheck
unfolding crosscheck
crosscheck_passes = record { are_faithful = (tt, (tt, tt, tt), tt); passed = λ vs c v m. by_meaning (Crosscheck (class_by vs.0)) c refl m }

change_passes : Passes is_command change
unfolding change
change_passes = record { are_faithful = (tt, (tt, (tt, (tt, tt, tt), tt), tt), tt); passed = λ vs c v m. by_meaning (ChangeBackup vs.0 (change_by vs.1.0)) c refl m }

deleting_passes : (d : Deletion) → is_command (deleting d) ≡ true
deleting_passes Obsolete = refl
deleting_passes (One id) = refl
deleting_passes (Expired class) = refl

delete_passes : Passes is_command delete
unfolding delete
delete_passes = record { are_faithful = (tt, (tt, (tt, (tt, tt, tt), tt), tt), tt); passed = λ vs c v m. by_meaning (deleting (deletion_by vs.0)) c (deleting_passes (deletion_by vs.0)) m }

redundancy_passes : (v : Choice (Values redundancy_part) (Unit {0})) → one_valid (valid redundancy_part) (valid (word (codes "NONE") ▸ end)) v ≡ true → is_retention (redundancy_or_none_by v) ≡ true
redundancy_passes (first v) h = (and_parts (in_range 1 (2 ^ 64 - 1) v.0) true h).0
redundancy_passes (second v) h = refl

policy_passes : (v : Choice (Values window_part) (Values redundancy_or_none)) → one_valid (valid window_part) (valid redundancy_or_none) v ≡ true → is_retention (policy_by v) ≡ true
policy_passes (first v) h = (and_parts (in_range 1 (2 ^ 64 - 1) v.0) true h).0
policy_passes (second v) h = redundancy_passes v.0 (and_parts (one_valid (valid redundancy_part) (valid (word (codes "NONE") ▸ end)) v.0) true h).0

retention_by_passes : (v : Choice (Values policy_part) (Unit {0})) → one_valid (valid policy_part) (valid (word (codes "CLEAR") ▸ end)) v ≡ true → is_retention (retention_by v) ≡ true
retention_by_passes (first v) h = policy_passes v.0 (and_parts (one_valid (valid window_part) (valid redundancy_or_none) v.0) true h).0
retention_by_passes (second v) h = refl

retention_passes : Passes is_command retention
unfolding retention
retention_passes = record {
  are_faithful = ((tt, (tt, tt, tt), tt), tt, tt);
  passed = λ vs c v m. by_meaning (Retention (retention_by vs.0)) c (retention_by_passes vs.0 (and_parts (one_valid (valid policy_part) (valid (word (codes "CLEAR") ▸ end)) vs.0) true v).0) m;
}

create_datafile_passes : Passes is_command create_datafile
unfolding create_datafile
create_datafile_passes = record { are_faithful = tt; passed = λ vs c v m. by_meaning (CreateDatafile vs.0) c (and_parts (in_range 1 (2 ^ 64 - 1) vs.0) true v).0 m }

switch_logfile_passes : Passes is_command switch_logfile
unfolding switch_logfile
switch_logfile_passes = record { are_faithful = tt; passed = λ vs c v m. by_meaning (SwitchLogfile vs.0) c refl m }

archive_log_passes : Passes is_command archive_log
unfolding archive_log
archive_log_passes = record { are_faithful = tt; passed = λ vs c v m. by_meaning ArchiveLogCurrent c refl m }

track_passes : Passes is_command track
unfolding track
track_passes = record { are_faithful = tt; passed = λ vs c v m. by_meaning (Tracking true) c refl m }

untrack_passes : Passes is_command untrack
unfolding untrack
untrack_passes = record { are_faithful = tt; passed = λ vs c v m. by_meaning (Tracking false) c refl m }

enable_thread_passes : Passes is_command enable_thread
unfolding enable_thread
enable_thread_passes = record { are_faithful = tt; passed = λ vs c v m. by_meaning (SwitchThread vs.0 true) c refl m }

disable_thread_passes : Passes is_command disable_thread
unfolding disable_thread
disable_thread_passes = record { are_faithful = tt; passed = λ vs c v m. by_meaning (SwitchThread vs.0 false) c refl m }

shutdown_passes : Passes is_command shutdown
unfolding shutdown
shutdown_passes = record { are_faithful = tt; passed = λ vs c v m. by_meaning Mount c refl m }

startup_passes : Passes is_command startup
unfolding startup
startup_passes = record { are_faithful = tt; passed = λ vs c v m. by_meaning Mount c refl m }

reset_database_passes : Passes is_command reset_database
unfolding reset_database
reset_database_passes = record { are_faithful = tt; passed = λ vs c v m. by_meaning (ResetDatabase vs.0) c refl m }

validate_passes : Passes is_command validate
unfolding validate
validate_passes = record { are_faithful = tt; passed = λ vs c v m. by_meaning ValidateAll c refl m }

report_obsolete_passes : Passes is_command report_obsolete
unfolding report_obsolete
report_obsolete_passes = record { are_faithful = tt; passed = λ vs c v m. by_meaning ReportObsolete c refl m }

report_need_backup_passes : Passes is_command report_need_backup
unfolding report_need_backup
report_need_backup_passes = record { are_faithful = tt; passed = λ vs c v m. by_meaning ReportNeedBackup c refl m }

report_schema_passes : Passes is_command report_schema
unfolding report_schema
report_schema_passes = record { are_faithful = tt; passed = λ vs c v m. by_meaning ReportSchema c refl m }

list_incarnation_passes : Passes is_command list_incarnation
unfolding list_incarnation
list_incarnation_passes = record { are_faithful = tt; passed = λ vs c v m. by_meaning ListIncarnation c refl m }

list_backup_passes : Passes is_command list_backup
unfolding list_backup
list_backup_passes = record { are_faithful = tt; passed = λ vs c v m. by_meaning ListBackup c refl m }

list_copy_passes : Passes is_command list_copy
unfolding list_copy
list_copy_passes = record { are_faithful = tt; passed = λ vs c v m. by_meaning ListCopy c refl m }

list_archived_passes : Passes is_command list_archived
unfolding list_archived
list_archived_passes = record { are_faithful = tt; passed = λ vs c v m. by_meaning ListArchived c refl m }

list_corruption_passes : Passes is_command list_corruption
unfolding list_corruption
list_corruption_passes = record { are_faithful = tt; passed = λ vs c v m. by_meaning ListCorruption c refl m }

show_passes : Passes is_command show
unfolding show
show_passes = record { are_faithful = tt; passed = λ vs c v m. by_meaning ShowAll c refl m }

dump_passes : Passes is_command dump
unfolding dump
dump_passes = record { are_faithful = tt; passed = λ vs c v m. by_meaning (Dump vs.0 vs.1.0) c refl m }

parallelism_passes : Passes is_command parallelism
unfolding parallelism
parallelism_passes = record { are_faithful = tt; passed = λ vs c v m. by_meaning (Parallelism vs.0) c (and_parts (in_range 1 (2 ^ 64 - 1) vs.0) true v).0 m }

catalog_passes : Passes is_command catalog
unfolding catalog
catalog_passes = record { are_faithful = (tested-faithful anything, tt); passed = λ vs c v m. by_meaning (CatalogName vs.0) c (tested-shown anything vs.0 (and_parts (is_shown plain vs.0) true v).0) m }

lose_datafile_passes : Passes is_command lose_datafile
unfolding lose_datafile
lose_datafile_passes = record { are_faithful = tt; passed = λ vs c v m. by_meaning (LoseDatafile vs.0) c refl m }

lose_log_passes : Passes is_command lose_log
unfolding lose_log
lose_log_passes = record { are_faithful = tt; passed = λ vs c v m. by_meaning (LoseLog vs.0) c refl m }

corrupt_passes : Passes is_command corrupt
unfolding corrupt
corrupt_passes = record { are_faithful = tt; passed = λ vs c v m. by_meaning (Corrupt vs.0 vs.1.0) c refl m }

remove_passes : Passes is_command remove
unfolding remove
remove_passes = record { are_faithful = (tested-faithful anything, tt); passed = λ vs c v m. by_meaning (Remove vs.0) c (tested-shown anything vs.0 (and_parts (is_shown plain vs.0) true v).0) m }

damage_passes : Passes is_command damage
unfolding damage
damage_passes = record { are_faithful = (tested-faithful anything, tt); passed = λ vs c v m. by_meaning (Damage vs.0 vs.1.0) c (tested-shown anything vs.0 (and_parts (is_shown plain vs.0) true v).0) m }

cut_passes : Passes is_command cut
unfolding cut
cut_passes = record { are_faithful = (tested-faithful anything, tt); passed = λ vs c v m. by_meaning (Cut vs.0 vs.1.0) c (tested-shown anything vs.0 (and_parts (is_shown plain vs.0) true v).0) m }

rename_passes : Passes is_command rename
unfolding rename
rename_passes = record { are_faithful = (tested-faithful anything, (tested-faithful is_new_name, tt)); passed = λ vs c v m. by_meaning (Rename vs.0 vs.1.0) c (both_names vs.0 vs.1.0 v) m }

mishap_pass : AllPass is_command mishap_forms
unfolding mishap_forms
mishap_pass = (lose_datafile_passes, (lose_log_passes, (corrupt_passes, (remove_passes, (damage_passes, (cut_passes, (rename_passes, tt)))))))

setting_pass : AllPass is_command setting_forms
unfolding setting_forms
setting_pass = (retention_passes, (parallelism_passes, (catalog_passes, mishap_pass)))

asking_pass : AllPass is_command asking_forms
unfolding asking_forms
asking_pass = (report_obsolete_passes, (report_need_backup_passes, (report_schema_passes, (list_incarnation_passes, (list_backup_passes, (list_copy_passes, (list_archived_passes, (list_corruption_passes, (show_passes, (dump_passes, setting_pass))))))))))

upkeep_pass : AllPass is_command upkeep_forms
unfolding upkeep_forms
upkeep_pass = (crosscheck_passes, (validate_passes, (change_passes, (delete_passes, asking_pass))))

backup_pass : AllPass is_command backup_forms
unfolding backup_forms
backup_pass = (backup_form_passes, (backup_logs_passes, upkeep_pass))

repair_pass : AllPass is_command repair_forms
unfolding repair_forms
repair_pass = (block_recover_passes, backup_pass)

recovery_pass : AllPass is_command recovery_forms
unfolding recovery_forms
recovery_pass = (restore_passes, (restore_datafile_passes, (recover_passes, (recover_copy_passes, repair_pass))))

mode_pass : AllPass is_command mode_forms
unfolding mode_forms
mode_pass = (shutdown_passes, (startup_passes, (reset_database_passes, (open_database_passes, recovery_pass))))

switch_pass : AllPass is_command switch_forms
unfolding switch_forms
switch_pass = (track_passes, (untrack_passes, (enable_thread_passes, (disable_thread_passes, mode_pass))))

-- each form's commands pass the test
pub all_pass : AllPass is_command forms
unfolding forms
all_pass = (create_database_passes, (write_passes, (create_datafile_passes, (switch_logfile_passes, (archive_log_passes, switch_pass)))))
