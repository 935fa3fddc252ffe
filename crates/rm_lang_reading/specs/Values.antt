-- What the parts of a statement say.
use Rattle.std.specs.{Prelude.{ℕ, List, Option, Some, None, Bool, true, false, map}, Option.{option_map}}
use Rattle.rm_base.specs.declared.kinds.Class.{Class, TheVariants.{Backup as BackupClass, Copy as CopyClass, Archived}}
use Rattle.rm_lang_grammar.specs.Grammar.{Values, Choice, first, second}
use Rattle.rm_lang_reading.specs.{Creating.{write_part}, Recovering.{scn_part, log_or_time, until_line, incarnation_line}}
use Rattle.rm_lang_reading.specs.Backups.{as_line, level_part, from_part, increment_line, merge_line, database_line, files_line, sets_line, tag_line, keep_line, during_line, backup_line}
use Rattle.rm_lang_reading.specs.Repairs.{corruption_line, blocks_line, block_recover_line}
use Rattle.rm_lang_reading.specs.{Upkeep.{copy_or_archived, withdrawing, one_or_expired}, Settings.{policy_part}}
use Rattle.rm_lang_reading.specs.declared.backup.{BackupAs.{BackupAs, TheVariants.{Copy, Sets}}, Level.{Level}, Increment.{Increment}}
use Rattle.rm_lang_reading.specs.declared.{backup.Increment.TheVariants.{Level as OfLevel, From as FromScn}, upkeep.Deletion.{Deletion}}
use Rattle.rm_lang_reading.specs.declared.upkeep.Deletion.TheVariants.{Obsolete, One, Expired}
use Rattle.rm_lang_statement.specs.declared.command.{Until.{Until, TheVariants.{Scn, Sequence, Time}}, WriteForm.{WriteForm}}
use Rattle.rm_lang_statement.specs.declared.command.{BackupForm.{BackupForm}, NamedBlocks.{NamedBlocks}, RepairForm.{RepairForm}}
use Rattle.rm_lang_statement.specs.declared.command.ChangeTo.{ChangeTo, TheVariants.{Available, Unavailable, Uncatalog, Keep, NoKeep}}
use Rattle.rm_lang_statement.specs.declared.command.RetentionForm.{RetentionForm, TheVariants.{Window, Redundancy, Nothing, Clear}}

-- what a write says
abbrev pub write_values : WriteForm → Values write_part
write_values w = (w.thread, (w.file, (w.block, (w.content.0, tt))))

-- what an UNTIL says
abbrev pub until_choice : Until → Choice (Values scn_part) (Values log_or_time)
until_choice (Scn n) = first (n, tt)
until_choice (Sequence sequence thread) = second (first (sequence, (thread, tt)), tt)
until_choice (Time w) = second (second (w, tt), tt)

abbrev pub until_values : Until → Values until_line
until_values until = (until_choice until, tt)

-- what an INCARNATION says
abbrev pub incarnation_values : ℕ → Values incarnation_line
incarnation_values n = (n, tt)

-- what an AS says
abbrev pub kind_values : BackupAs → Values as_line
kind_values Copy = (first tt, tt)
kind_values Sets = (second tt, tt)

-- what asks for image copies, or for what is made anyway
abbrev pub kind_asked : Bool → Option BackupAs
kind_asked true = Some Copy
kind_asked false = None

-- what a LEVEL says
abbrev pub level_values : Level → Values level_part
level_values l = (l.number, (l.cumulative, tt))

-- what an INCREMENTAL says
abbrev pub increment_choice : Increment → Choice (Values level_part) (Values from_part)
increment_choice (OfLevel l) = first (level_values l)
increment_choice (FromScn scn) = second (scn, tt)

abbrev pub increment_values : Increment → Values increment_line
increment_values i = (increment_choice i, tt)

-- what asks for the level of a number
abbrev pub level_asked : Bool → ℕ → Increment
level_asked cumulative n = OfLevel (record { number = n; cumulative = cumulative })

-- what a FOR RECOVER OF COPY WITH TAG says
abbrev pub merge_values : List ℕ → Values merge_line
merge_values w = (w, tt)

-- what DATABASE or a list of datafiles says
abbrev pub files_values : Option (List ℕ) → Choice (Values database_line) (Values files_line)
files_values None = first tt
files_values (Some ns) = second (ns, tt)

-- what a FILESPERSET says
abbrev pub sets_values : ℕ → Values sets_line
sets_values n = (n, tt)

-- what a TAG says
abbrev pub tag_values : List ℕ → Values tag_line
tag_values w = (w, tt)

-- what a KEEP says
abbrev pub keep_values : Bool → Option (Values keep_line)
keep_values true = Some tt
keep_values false = None

-- what a DURING says
abbrev pub during_values : List WriteForm → Values during_line
during_values writes = (map write_values writes, tt)

-- what a BACKUP says
abbrev pub backup_values : BackupForm → Values backup_line
backup_values b = (
  option_map kind_values (kind_asked b.copy),
  (
    option_map increment_values (option_map (level_asked b.cumulative) b.level),
    (
      option_map merge_values b.merge_tag,
      (
        files_values b.files,
        (
          option_map sets_values b.files_per_set,
          (option_map tag_values b.tag, (keep_values b.keep, (option_map during_values b.during, tt))),
        ),
      ),
    ),
  ),
)

-- what a BACKUP INCREMENTAL FROM SCN says
abbrev pub from_values : ℕ → Values backup_line
from_values scn = (None, (Some (increment_values (FromScn scn)), (None, (first tt, (None, (None, (None, (None, tt))))))))

-- what CORRUPTION LIST or the blocks of a datafile say
abbrev pub blocks_values : Option NamedBlocks → Choice (Values corruption_line) (Values blocks_line)
blocks_values None = first tt
blocks_values (Some n) = second (n.file, (n.blocks, tt))

-- what a BLOCKRECOVER says
abbrev pub repair_values : RepairForm → Values block_recover_line
repair_values r = (blocks_values r.blocks, (option_map during_values r.during, tt))

-- what a class is named by
abbrev pub class_choice : Class → Choice (Unit {0}) (Values copy_or_archived)
class_choice BackupClass = first tt
class_choice CopyClass = second (first tt, tt)
class_choice Archived = second (second tt, tt)

-- what a CHANGE asks for
abbrev pub change_choice : ChangeTo → Choice (Unit {0}) (Values withdrawing)
change_choice Available = first tt
change_choice Unavailable = second (first tt, tt)
change_choice Uncatalog = second (second (first tt, tt), tt)
change_choice Keep = second (second (second (first tt, tt), tt), tt)
change_choice NoKeep = second (second (second (second tt, tt), tt), tt)

-- what a DELETE names
abbrev pub deletion_choice : Deletion → Choice (Unit {0}) (Values one_or_expired)
deletion_choice Obsolete = first tt
deletion_choice (One id) = second (first (id, tt), tt)
deletion_choice (Expired class) = second (second (class_choice class, tt), tt)

-- what a RETENTION POLICY says
abbrev pub retention_choice : RetentionForm → Choice (Values policy_part) (Unit {0})
retention_choice (Window days) = first (first (days, tt), tt)
retention_choice (Redundancy count) = first (second (first (count, tt), tt), tt)
retention_choice Nothing = first (second (second tt, tt), tt)
retention_choice Clear = second tt
