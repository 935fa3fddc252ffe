-- The statements that make a database and change it, and the command that each one is.
use Rattle.std.specs.Prelude.{◌-◌, ◌^◌, Some, codes, true, false}
use Rattle.rm_lang_grammar.specs.{Grammar.{◌▸◌, Grammar, Values, semicolon, word, number, number_or, text, any, in_range}, Forms.{Form}}
use Rattle.rm_lang_statement.specs.{Texts.{content}, declared.command.{WriteForm.{WriteForm}, Command.{Command}}}
use Rattle.rm_lang_statement.specs.declared.command.Command.TheVariants.{CreateDatabase, CreateDatafile, Write, SwitchLogfile, ArchiveLogCurrent, Tracking, SwitchThread}

-- CREATE DATABASE [DBID n] [THREADS n] [SCN n]
abbrev pub create_database_line : Grammar
create_database_line = word (codes "CREATE") ▸ word (codes "DATABASE") ▸ number_or (codes "DBID") 1 (in_range 1 (2 ^ 32 - 1)) ▸ number_or (codes "THREADS") 1 (in_range 1 (2 ^ 64 - 1)) ▸ number_or (codes "SCN") 1 (in_range 1 (2 ^ 48 - 1)) ▸ semicolon

unfoldable pub create_database : Form Command
create_database = record { line = create_database_line; meaning = λ v. Some (CreateDatabase v.0 v.1.0 v.1.1.0) }

-- [THREAD n] DATAFILE n BLOCK n VALUE 't' ;
abbrev pub write_part : Grammar
write_part = number_or (codes "THREAD") 1 any ▸ word (codes "DATAFILE") ▸ number any ▸ word (codes "BLOCK") ▸ number any ▸ word (codes "VALUE") ▸ text content ▸ semicolon

abbrev pub written : Values write_part → WriteForm
written v = record { thread = v.0; file = v.1.0; block = v.1.1.0; content = record { 0 = v.1.1.1.0 } }

-- WRITE and its parts
abbrev pub write_line : Grammar
write_line = word (codes "WRITE") ▸ write_part

unfoldable pub write : Form Command
write = record { line = write_line; meaning = λ v. Some (Write (written v)) }

-- CREATE DATAFILE BLOCKS n
abbrev pub create_datafile_line : Grammar
create_datafile_line = word (codes "CREATE") ▸ word (codes "DATAFILE") ▸ word (codes "BLOCKS") ▸ number (in_range 1 (2 ^ 64 - 1)) ▸ semicolon

unfoldable pub create_datafile : Form Command
create_datafile = record { line = create_datafile_line; meaning = λ v. Some (CreateDatafile v.0) }

-- ALTER SYSTEM SWITCH LOGFILE [THREAD n]
abbrev pub switch_logfile_line : Grammar
switch_logfile_line = word (codes "ALTER") ▸ word (codes "SYSTEM") ▸ word (codes "SWITCH") ▸ word (codes "LOGFILE") ▸ number_or (codes "THREAD") 1 any ▸ semicolon

unfoldable pub switch_logfile : Form Command
switch_logfile = record { line = switch_logfile_line; meaning = λ v. Some (SwitchLogfile v.0) }

-- ALTER SYSTEM ARCHIVE LOG CURRENT
abbrev pub archive_log_line : Grammar
archive_log_line = word (codes "ALTER") ▸ word (codes "SYSTEM") ▸ word (codes "ARCHIVE") ▸ word (codes "LOG") ▸ word (codes "CURRENT") ▸ semicolon

unfoldable pub archive_log : Form Command
archive_log = record { line = archive_log_line; meaning = λ v. Some ArchiveLogCurrent }

-- ALTER DATABASE ENABLE BLOCK CHANGE TRACKING
abbrev pub track_line : Grammar
track_line = word (codes "ALTER") ▸ word (codes "DATABASE") ▸ word (codes "ENABLE") ▸ word (codes "BLOCK") ▸ word (codes "CHANGE") ▸ word (codes "TRACKING") ▸ semicolon

unfoldable pub track : Form Command
track = record { line = track_line; meaning = λ v. Some (Tracking true) }

-- ALTER DATABASE DISABLE BLOCK CHANGE TRACKING
abbrev pub untrack_line : Grammar
untrack_line = word (codes "ALTER") ▸ word (codes "DATABASE") ▸ word (codes "DISABLE") ▸ word (codes "BLOCK") ▸ word (codes "CHANGE") ▸ word (codes "TRACKING") ▸ semicolon

unfoldable pub untrack : Form Command
untrack = record { line = untrack_line; meaning = λ v. Some (Tracking false) }

-- ALTER DATABASE ENABLE THREAD n
abbrev pub enable_thread_line : Grammar
enable_thread_line = word (codes "ALTER") ▸ word (codes "DATABASE") ▸ word (codes "ENABLE") ▸ word (codes "THREAD") ▸ number any ▸ semicolon

unfoldable pub enable_thread : Form Command
enable_thread = record { line = enable_thread_line; meaning = λ v. Some (SwitchThread v.0 true) }

-- ALTER DATABASE DISABLE THREAD n
abbrev pub disable_thread_line : Grammar
disable_thread_line = word (codes "ALTER") ▸ word (codes "DATABASE") ▸ word (codes "DISABLE") ▸ word (codes "THREAD") ▸ number any ▸ semicolon

unfoldable pub disable_thread : Form Command
disable_thread = record { line = disable_thread_line; meaning = λ v. Some (SwitchThread v.0 false) }
