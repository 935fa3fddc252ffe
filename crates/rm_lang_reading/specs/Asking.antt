-- The statements that ask and answer, and the command that each one is.
use Rattle.std.specs.Prelude.{Some, codes}
use Rattle.rm_lang_grammar.specs.{Grammar.{◌▸◌, Grammar, semicolon, word, number, any}, Forms.{Form}}
use Rattle.rm_lang_statement.specs.declared.command.Command.{Command}
use Rattle.rm_lang_statement.specs.declared.command.Command.TheVariants.{ReportObsolete, ReportNeedBackup, ReportSchema, ListIncarnation, ListBackup, ListCopy, ListArchived, ListCorruption, ShowAll, Dump}

-- REPORT OBSOLETE
abbrev pub report_obsolete_line : Grammar
report_obsolete_line = word (codes "REPORT") ▸ word (codes "OBSOLETE") ▸ semicolon

unfoldable pub report_obsolete : Form Command
report_obsolete = record { line = report_obsolete_line; meaning = λ v. Some ReportObsolete }

-- REPORT NEED BACKUP
abbrev pub report_need_backup_line : Grammar
report_need_backup_line = word (codes "REPORT") ▸ word (codes "NEED") ▸ word (codes "BACKUP") ▸ semicolon

unfoldable pub report_need_backup : Form Command
report_need_backup = record { line = report_need_backup_line; meaning = λ v. Some ReportNeedBackup }

-- REPORT SCHEMA
abbrev pub report_schema_line : Grammar
report_schema_line = word (codes "REPORT") ▸ word (codes "SCHEMA") ▸ semicolon

unfoldable pub report_schema : Form Command
report_schema = record { line = report_schema_line; meaning = λ v. Some ReportSchema }

-- LIST INCARNATION
abbrev pub list_incarnation_line : Grammar
list_incarnation_line = word (codes "LIST") ▸ word (codes "INCARNATION") ▸ semicolon

unfoldable pub list_incarnation : Form Command
list_incarnation = record { line = list_incarnation_line; meaning = λ v. Some ListIncarnation }

-- LIST BACKUP
abbrev pub list_backup_line : Grammar
list_backup_line = word (codes "LIST") ▸ word (codes "BACKUP") ▸ semicolon

unfoldable pub list_backup : Form Command
list_backup = record { line = list_backup_line; meaning = λ v. Some ListBackup }

-- LIST COPY
abbrev pub list_copy_line : Grammar
list_copy_line = word (codes "LIST") ▸ word (codes "COPY") ▸ semicolon

unfoldable pub list_copy : Form Command
list_copy = record { line = list_copy_line; meaning = λ v. Some ListCopy }

-- LIST ARCHIVELOG ALL
abbrev pub list_archived_line : Grammar
list_archived_line = word (codes "LIST") ▸ word (codes "ARCHIVELOG") ▸ word (codes "ALL") ▸ semicolon

unfoldable pub list_archived : Form Command
list_archived = record { line = list_archived_line; meaning = λ v. Some ListArchived }

-- LIST CORRUPTION
abbrev pub list_corruption_line : Grammar
list_corruption_line = word (codes "LIST") ▸ word (codes "CORRUPTION") ▸ semicolon

unfoldable pub list_corruption : Form Command
list_corruption = record { line = list_corruption_line; meaning = λ v. Some ListCorruption }

-- SHOW ALL
abbrev pub show_line : Grammar
show_line = word (codes "SHOW") ▸ word (codes "ALL") ▸ semicolon

unfoldable pub show : Form Command
show = record { line = show_line; meaning = λ v. Some ShowAll }

-- DUMP DATAFILE n BLOCK n
abbrev pub dump_line : Grammar
dump_line = word (codes "DUMP") ▸ word (codes "DATAFILE") ▸ number any ▸ word (codes "BLOCK") ▸ number any ▸ semicolon

unfoldable pub dump : Form Command
dump = record { line = dump_line; meaning = λ v. Some (Dump v.0 v.1.0) }
