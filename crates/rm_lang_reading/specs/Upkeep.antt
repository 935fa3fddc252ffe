-- The statements that look after records, and the command that each one is.
use Rattle.std.specs.Prelude.{Some, codes}
use Rattle.rm_base.specs.declared.kinds.Class.{Class, TheVariants.{Backup, Copy, Archived}}
use Rattle.rm_lang_grammar.specs.Grammar.{◌▸◌, Grammar, Values, Choice, first, second, end, semicolon, word, noise, number, either, any}
use Rattle.rm_lang_grammar.specs.Forms.{Form}
use Rattle.rm_lang_reading.specs.declared.upkeep.Deletion.{Deletion, TheVariants.{Obsolete, One, Expired}}
use Rattle.rm_lang_statement.specs.declared.command.ChangeTo.{ChangeTo, TheVariants.{Available, Unavailable, Uncatalog, Keep, NoKeep}}
use Rattle.rm_lang_statement.specs.declared.command.Command.{Command}
use Rattle.rm_lang_statement.specs.declared.command.Command.TheVariants.{Crosscheck, ValidateAll, ChangeBackup, DeleteObsolete, DeleteBackup, DeleteExpired}

-- BACKUP, COPY or ARCHIVELOG ALL
abbrev pub copy_or_archived : Grammar
copy_or_archived = either (word (codes "COPY") ▸ end) (word (codes "ARCHIVELOG") ▸ word (codes "ALL") ▸ end) ▸ end

abbrev pub class : Grammar → Grammar
class g = either (word (codes "BACKUP") ▸ end) copy_or_archived ▸ g

abbrev pub copy_or_archived_by : Choice (Unit {0}) (Unit {0}) → Class
copy_or_archived_by (first v) = Copy
copy_or_archived_by (second v) = Archived

abbrev pub class_by : Choice (Unit {0}) (Values copy_or_archived) → Class
class_by (first v) = Backup
class_by (second v) = copy_or_archived_by v.0

-- CROSSCHECK (BACKUP | COPY | ARCHIVELOG ALL)
abbrev pub crosscheck_line : Grammar
crosscheck_line = word (codes "CROSSCHECK") ▸ class ▸ semicolon

unfoldable pub crosscheck : Form Command
crosscheck = record { line = crosscheck_line; meaning = λ v. Some (Crosscheck (class_by v.0)) }

-- VALIDATE ALL
abbrev pub validate_line : Grammar
validate_line = word (codes "VALIDATE") ▸ word (codes "ALL") ▸ semicolon

unfoldable pub validate : Form Command
validate = record { line = validate_line; meaning = λ v. Some ValidateAll }

-- AVAILABLE, UNAVAILABLE, UNCATALOG, KEEP FOREVER or NOKEEP
abbrev pub keeping : Grammar
keeping = either (word (codes "KEEP") ▸ word (codes "FOREVER") ▸ end) (word (codes "NOKEEP") ▸ end) ▸ end

abbrev pub uncataloguing : Grammar
uncataloguing = either (word (codes "UNCATALOG") ▸ end) keeping ▸ end

abbrev pub withdrawing : Grammar
withdrawing = either (word (codes "UNAVAILABLE") ▸ end) uncataloguing ▸ end

abbrev pub keeping_by : Choice (Unit {0}) (Unit {0}) → ChangeTo
keeping_by (first v) = Keep
keeping_by (second v) = NoKeep

abbrev pub uncataloguing_by : Choice (Unit {0}) (Values keeping) → ChangeTo
uncataloguing_by (first v) = Uncatalog
uncataloguing_by (second v) = keeping_by v.0

abbrev pub withdrawing_by : Choice (Unit {0}) (Values uncataloguing) → ChangeTo
withdrawing_by (first v) = Unavailable
withdrawing_by (second v) = uncataloguing_by v.0

abbrev pub change_by : Choice (Unit {0}) (Values withdrawing) → ChangeTo
change_by (first v) = Available
change_by (second v) = withdrawing_by v.0

-- CHANGE BACKUP n (AVAILABLE | UNAVAILABLE | UNCATALOG | KEEP FOREVER | NOKEEP)
abbrev pub change_line : Grammar
change_line = word (codes "CHANGE") ▸ word (codes "BACKUP") ▸ number any ▸ either (word (codes "AVAILABLE") ▸ end) withdrawing ▸ semicolon

unfoldable pub change : Form Command
change = record { line = change_line; meaning = λ v. Some (ChangeBackup v.0 (change_by v.1.0)) }

-- BACKUP n
abbrev pub record_part : Grammar
record_part = word (codes "BACKUP") ▸ number any ▸ end

-- EXPIRED (BACKUP | COPY | ARCHIVELOG ALL)
abbrev pub expired_part : Grammar
expired_part = word (codes "EXPIRED") ▸ class ▸ end

-- one of them
abbrev pub one_or_expired : Grammar
one_or_expired = either record_part expired_part ▸ end

abbrev pub one_or_expired_by : Choice (Values record_part) (Values expired_part) → Deletion
one_or_expired_by (first v) = One v.0
one_or_expired_by (second v) = Expired (class_by v.0)

abbrev pub deletion_by : Choice (Unit {0}) (Values one_or_expired) → Deletion
deletion_by (first v) = Obsolete
deletion_by (second v) = one_or_expired_by v.0

abbrev pub deleting : Deletion → Command
deleting Obsolete = DeleteObsolete
deleting (One id) = DeleteBackup id
deleting (Expired class) = DeleteExpired class

-- DELETE [NOPROMPT] (OBSOLETE | BACKUP n | EXPIRED (BACKUP | COPY | ARCHIVELOG ALL))
abbrev pub delete_line : Grammar
delete_line = word (codes "DELETE") ▸ noise (codes "NOPROMPT") ▸ either (word (codes "OBSOLETE") ▸ end) one_or_expired ▸ semicolon

unfoldable pub delete : Form Command
delete = record { line = delete_line; meaning = λ v. Some (deleting (deletion_by v.0)) }
