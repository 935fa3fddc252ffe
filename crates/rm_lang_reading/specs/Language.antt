-- The statements: which token lists are which statement.
use Rattle.std.specs.Prelude.{List, [], ◌∷◌, Option, Some, if◌then◌else◌, codes, map}
use Rattle.rm_lang_token.specs.declared.token.Token.{Token}
use Rattle.rm_lang_grammar.specs.{Grammar.{◌▸◌, Grammar, semicolon, word, named}, Reading.{◌>>=◌, begins_with, finish_at}}
use Rattle.rm_lang_grammar.specs.{Forms.{Form, IsByOne, command_in, as_form}, Blocks.{IsBlock, block_at}}
use Rattle.rm_lang_statement.specs.declared.command.{Command.{Command}, Inner.{Inner}}
use Rattle.rm_lang_statement.specs.declared.command.Inner.TheVariants.{SetUntil, AllocateChannel, Plain as PlainInner}
use Rattle.rm_lang_statement.specs.declared.command.Statement.{Statement, TheVariants.{Plain, Run}}
use Rattle.rm_lang_reading.specs.Creating.{create_database, write, create_datafile, switch_logfile, archive_log, track, untrack, enable_thread, disable_thread}
use Rattle.rm_lang_reading.specs.Modes.{shutdown, startup, reset_database, open_database}
use Rattle.rm_lang_reading.specs.{Recovering.{until, until_by, restore, restore_datafile, recover, recover_copy}, Repairs.{block_recover}}
use Rattle.rm_lang_reading.specs.{Backups.{backup, backup_logs}, Upkeep.{crosscheck, validate, change, delete}}
use Rattle.rm_lang_reading.specs.Asking.{report_obsolete, report_need_backup, report_schema, list_incarnation, list_backup, list_copy, list_archived, list_corruption, show, dump}
use Rattle.rm_lang_reading.specs.Settings.{retention, parallelism, catalog}
use Rattle.rm_lang_reading.specs.Mishaps.{lose_datafile, lose_log, corrupt, remove, damage, cut, rename}

-- the forms that stand for what may befall the devices
unfoldable pub mishap_forms : List (Form Command)
mishap_forms = lose_datafile ∷ lose_log ∷ corrupt ∷ remove ∷ damage ∷ cut ∷ rename ∷ []

-- those that set something, and the ones above
unfoldable pub setting_forms : List (Form Command)
setting_forms = retention ∷ parallelism ∷ catalog ∷ mishap_forms

-- those that ask and answer, and the ones above
unfoldable pub asking_forms : List (Form Command)
asking_forms = report_obsolete ∷ report_need_backup ∷ report_schema ∷ list_incarnation ∷ list_backup ∷ list_copy ∷ list_archived ∷ list_corruption ∷ show ∷ dump ∷ setting_forms

-- those that look after records, and the ones above
unfoldable pub upkeep_forms : List (Form Command)
upkeep_forms = crosscheck ∷ validate ∷ change ∷ delete ∷ asking_forms

-- those that make backups, and the ones above
unfoldable pub backup_forms : List (Form Command)
backup_forms = backup ∷ backup_logs ∷ upkeep_forms

-- those that mend blocks, and the ones above
unfoldable pub repair_forms : List (Form Command)
repair_forms = block_recover ∷ backup_forms

-- those that restore and recover, and the ones above
unfoldable pub recovery_forms : List (Form Command)
recovery_forms = restore ∷ restore_datafile ∷ recover ∷ recover_copy ∷ repair_forms

-- those of modes, and the ones above
unfoldable pub mode_forms : List (Form Command)
mode_forms = shutdown ∷ startup ∷ reset_database ∷ open_database ∷ recovery_forms

-- those that switch something on or off, and the ones above
unfoldable pub switch_forms : List (Form Command)
switch_forms = track ∷ untrack ∷ enable_thread ∷ disable_thread ∷ mode_forms

-- the forms of statements but RUN: those that create and write, and the ones above
unfoldable pub forms : List (Form Command)
forms = create_database ∷ write ∷ create_datafile ∷ switch_logfile ∷ archive_log ∷ switch_forms

-- SET until
abbrev pub set_until_line : Grammar
set_until_line = word (codes "SET") ▸ until ▸ semicolon

unfoldable pub set_until : Form Inner
set_until = record { line = set_until_line; meaning = λ v. Some (SetUntil (until_by v.0)) }

-- ALLOCATE CHANNEL word DEVICE TYPE DISK
abbrev pub allocate_line : Grammar
allocate_line = word (codes "ALLOCATE") ▸ named (codes "CHANNEL") ▸ word (codes "DEVICE") ▸ word (codes "TYPE") ▸ word (codes "DISK") ▸ semicolon

unfoldable pub allocate : Form Inner
allocate = record { line = allocate_line; meaning = λ v. Some AllocateChannel }

-- the forms of statements inside a RUN
unfoldable pub inner_forms : List (Form Inner)
inner_forms = set_until ∷ allocate ∷ map (as_form PlainInner) forms

-- The grammar: the tokens, with their ending, are this statement.
unfoldable pub IsStatement : List Token → Statement → Type 0
IsStatement ts (Plain c) = IsByOne forms c ts []
IsStatement ts (Run inner) = IsBlock (codes "RUN") inner_forms inner ts []

-- the statement that the tokens are
unfoldable pub statement_at : List Token → Option Statement
statement_at ts =
    if begins_with (codes "RUN") ts
    then (block_at (codes "RUN") inner_forms ts >>= λ x. finish_at (Run x.0) x.1)
    else (command_in forms ts >>= λ x. finish_at (Plain x.0) x.1)

-- some tokens are this statement
abbrev pub IsSpelled : Statement → Type 0
IsSpelled s = (ts : List Token) × IsStatement ts s
