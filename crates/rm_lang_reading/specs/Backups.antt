-- The statements that make backups, and the command that each one is.
use Rattle.std.specs.Prelude.{ℕ, Bool, true, false, not, ◌&&◌, if◌then◌else◌, is_some, List, Option, Some, None, codes, map}
use Rattle.std.specs.Option.{option_map}
use Rattle.rm_lang_token.specs.declared.token.Token.{Token}
use Rattle.rm_lang_grammar.specs.Grammar.{◌▸◌, Grammar, Values, Choice, first, second, end, semicolon, word, flag, number, tag, optional, either, numbers, sign, many, any, in_range}
use Rattle.rm_lang_grammar.specs.{Reading.{◌>>=◌, word_at, read}, Forms.{Form}}
use Rattle.rm_lang_reading.specs.{Creating.{write_part, written}, declared.backup.BackupAs.{BackupAs, TheVariants.{Copy, Sets}}}
use Rattle.rm_lang_reading.specs.declared.backup.{Level.{Level}, Increment.{Increment, TheVariants.{Level as OfLevel, From as FromScn}}}
use Rattle.rm_lang_statement.specs.{Named.{in_order}, Agreed.{agrees}, declared.command.{WriteForm.{WriteForm}, BackupForm.{BackupForm}}}
use Rattle.rm_lang_statement.specs.declared.command.Command.{Command, TheVariants.{Backup, BackupFrom, BackupLogs}}

-- AS COPY or AS BACKUPSET
abbrev pub as_line : Grammar
as_line = word (codes "AS") ▸ either (word (codes "COPY") ▸ end) (word (codes "BACKUPSET") ▸ end) ▸ end

abbrev pub kind_by : Choice (Unit {0}) (Unit {0}) → BackupAs
kind_by (first v) = Copy
kind_by (second v) = Sets

abbrev pub kind_of : Values as_line → BackupAs
kind_of v = kind_by v.0

-- image copies are asked for
abbrev pub is_copy : Option BackupAs → Bool
is_copy (Some Copy) = true
is_copy (Some Sets) = false
is_copy None = false

-- LEVEL n [CUMULATIVE]
abbrev pub level_part : Grammar
level_part = word (codes "LEVEL") ▸ number (in_range 0 1) ▸ flag (codes "CUMULATIVE") ▸ end

abbrev pub level_of : Values level_part → Level
level_of v = record { number = v.0; cumulative = v.1.0 }

-- FROM SCN n
abbrev pub from_part : Grammar
from_part = word (codes "FROM") ▸ word (codes "SCN") ▸ number any ▸ end

-- INCREMENTAL (LEVEL n [CUMULATIVE] | FROM SCN n)
abbrev pub increment_line : Grammar
increment_line = word (codes "INCREMENTAL") ▸ either level_part from_part ▸ end

abbrev pub increment_by : Choice (Values level_part) (Values from_part) → Increment
increment_by (first v) = OfLevel (level_of v)
increment_by (second v) = FromScn v.0

abbrev pub increment_of : Values increment_line → Increment
increment_of v = increment_by v.0

-- the number of the level that is asked for
abbrev pub number_of : Option Increment → Option ℕ
number_of (Some (OfLevel l)) = Some l.number
number_of (Some (FromScn scn)) = None
number_of None = None

abbrev pub is_cumulative : Option Increment → Bool
is_cumulative (Some (OfLevel l)) = l.cumulative
is_cumulative (Some (FromScn scn)) = false
is_cumulative None = false

-- FOR RECOVER OF COPY WITH TAG tag
abbrev pub merge_line : Grammar
merge_line = word (codes "FOR") ▸ word (codes "RECOVER") ▸ word (codes "OF") ▸ word (codes "COPY") ▸ word (codes "WITH") ▸ tag ▸ end

abbrev pub merge_tag_of : Values merge_line → List ℕ
merge_tag_of v = v.0

-- DATABASE
abbrev pub database_line : Grammar
database_line = word (codes "DATABASE") ▸ end

-- DATAFILE n {, n}*
abbrev pub files_line : Grammar
files_line = word (codes "DATAFILE") ▸ numbers ▸ end

-- the datafiles that are named, ascending and each once; None is all
abbrev pub files_of : Choice (Values database_line) (Values files_line) → Option (List ℕ)
files_of (first v) = None
files_of (second v) = Some (in_order v.0)

-- FILESPERSET n
abbrev pub sets_line : Grammar
sets_line = word (codes "FILESPERSET") ▸ number (in_range 1 64) ▸ end

abbrev pub per_set_of : Values sets_line → ℕ
per_set_of v = v.0

-- TAG tag
abbrev pub tag_line : Grammar
tag_line = tag ▸ end

abbrev pub tag_of : Values tag_line → List ℕ
tag_of v = v.0

-- KEEP FOREVER
abbrev pub keep_line : Grammar
keep_line = word (codes "KEEP") ▸ word (codes "FOREVER") ▸ end

abbrev pub stands : Option (Values keep_line) → Bool
stands (Some v) = true
stands None = false

-- DURING { {write ;}* }
abbrev pub during_line : Grammar
during_line = word (codes "DURING") ▸ sign 123 ▸ many (codes "WRITE") write_part ▸ sign 125 ▸ end

-- WRITE and its parts, at the front of the tokens
abbrev pub write_at : List Token → Option (Values write_part × List Token)
write_at ts = word_at (codes "WRITE") ts >>= λ us. read write_part us

abbrev pub during_of : Values during_line → List WriteForm
during_of v = map written v.0

-- BACKUP [AS COPY | AS BACKUPSET] [INCREMENTAL (LEVEL n [CUMULATIVE] | FROM SCN n)] [FOR RECOVER OF COPY WITH TAG tag]
-- (DATABASE | DATAFILE n {, n}*) [FILESPERSET n] [TAG tag] [KEEP FOREVER] [DURING { {write ;}* }]
abbrev pub backup_line : Grammar
backup_line = word (codes "BACKUP") ▸ optional as_line ▸ optional increment_line ▸ optional merge_line ▸ either database_line files_line ▸ optional sets_line ▸ optional tag_line ▸ optional keep_line ▸ optional during_line ▸ semicolon

abbrev pub backup_of : Values backup_line → BackupForm
backup_of v = record {
  copy = is_copy (option_map kind_of v.0);
  level = number_of (option_map increment_of v.1.0);
  cumulative = is_cumulative (option_map increment_of v.1.0);
  merge_tag = option_map merge_tag_of v.1.1.0;
  files = files_of v.1.1.1.0;
  files_per_set = option_map per_set_of v.1.1.1.1.0;
  tag = option_map tag_of v.1.1.1.1.1.0;
  keep = stands v.1.1.1.1.1.1.0;
  during = option_map during_of v.1.1.1.1.1.1.1.0;
}

-- a backup, where its parts can stand together
abbrev pub agreed : Bool → BackupForm → Option Command
agreed with_as b = if agrees with_as b then Some (Backup b) else None

-- nothing is said but that all datafiles are backed up
abbrev pub is_plain : Bool → BackupForm → Bool
is_plain with_as b = not with_as && not (is_some b.merge_tag) && not (is_some b.files) && not (is_some b.files_per_set) && not (is_some b.tag) && not b.keep && not (is_some b.during)

-- an increment from an SCN, where nothing else is said
abbrev pub increment_from : ℕ → Bool → BackupForm → Option Command
increment_from scn with_as b = if is_plain with_as b then Some (BackupFrom scn) else None

-- the command, by what an INCREMENTAL asks for
abbrev pub saved : Option Increment → Bool → BackupForm → Option Command
saved (Some (FromScn scn)) with_as b = increment_from scn with_as b
saved (Some (OfLevel l)) with_as b = agreed with_as b
saved None with_as b = agreed with_as b

unfoldable pub backup : Form Command
backup = record { line = backup_line; meaning = λ v. saved (option_map increment_of v.1.0) (is_some (option_map kind_of v.0)) (backup_of v) }

-- BACKUP ARCHIVELOG ALL
abbrev pub backup_logs_line : Grammar
backup_logs_line = word (codes "BACKUP") ▸ word (codes "ARCHIVELOG") ▸ word (codes "ALL") ▸ semicolon

unfoldable pub backup_logs : Form Command
backup_logs = record { line = backup_logs_line; meaning = λ v. Some BackupLogs }
