-- The statements that restore and recover, and the command that each one is.
use Rattle.std.specs.{Prelude.{ℕ, Bool, true, false, Option, Some, None, codes}, Option.{option_map}}
use Rattle.rm_lang_grammar.specs.Grammar.{◌▸◌, Grammar, Values, Choice, first, second, end, semicolon, word, flag, number, number_or, text, tag, optional, either, any}
use Rattle.rm_lang_grammar.specs.Forms.{Form}
use Rattle.rm_lang_statement.specs.{Texts.{time}, declared.command.{Until.{Until, TheVariants.{Scn, Sequence, Time}}, Command.{Command}}}
use Rattle.rm_lang_statement.specs.declared.command.Command.TheVariants.{Restore, Preview, Recover, RecoverTest, RecoverCopy}

-- SCN n
abbrev pub scn_part : Grammar
scn_part = word (codes "SCN") ▸ number any ▸ end

-- SEQUENCE n [THREAD n]
abbrev pub sequence_part : Grammar
sequence_part = word (codes "SEQUENCE") ▸ number any ▸ number_or (codes "THREAD") 1 any ▸ end

-- TIME 't'
abbrev pub time_part : Grammar
time_part = word (codes "TIME") ▸ text time ▸ end

-- one of the last two
abbrev pub log_or_time : Grammar
log_or_time = either sequence_part time_part ▸ end

-- UNTIL SCN n, UNTIL SEQUENCE n [THREAD n] or UNTIL TIME 't', and what follows
abbrev pub until : Grammar → Grammar
until g = word (codes "UNTIL") ▸ either scn_part log_or_time ▸ g

abbrev pub log_or_time_of : Choice (Values sequence_part) (Values time_part) → Until
log_or_time_of (first v) = Sequence v.0 v.1.0
log_or_time_of (second v) = Time v.0

abbrev pub until_by : Choice (Values scn_part) (Values log_or_time) → Until
until_by (first v) = Scn v.0
until_by (second v) = log_or_time_of v.0

-- UNTIL with nothing more
abbrev pub until_line : Grammar
until_line = until ▸ end

abbrev pub until_of : Values until_line → Until
until_of v = until_by v.0

-- RESTORE DATABASE [until] [PREVIEW]
abbrev pub restore_line : Grammar
restore_line = word (codes "RESTORE") ▸ word (codes "DATABASE") ▸ optional until_line ▸ flag (codes "PREVIEW") ▸ semicolon

abbrev pub restoring : Option Until → Bool → Command
restoring until true = Preview until
restoring until false = Restore None until

unfoldable pub restore : Form Command
restore = record { line = restore_line; meaning = λ v. Some (restoring (option_map until_of v.0) v.1.0) }

-- RESTORE DATAFILE n [until]
abbrev pub restore_datafile_line : Grammar
restore_datafile_line = word (codes "RESTORE") ▸ word (codes "DATAFILE") ▸ number any ▸ optional until_line ▸ semicolon

unfoldable pub restore_datafile : Form Command
restore_datafile = record { line = restore_datafile_line; meaning = λ v. Some (Restore (Some v.0) (option_map until_of v.1.0)) }

-- INCARNATION n
abbrev pub incarnation_line : Grammar
incarnation_line = word (codes "INCARNATION") ▸ number any ▸ end

abbrev pub incarnation_of : Values incarnation_line → ℕ
incarnation_of v = v.0

-- RECOVER DATABASE [until] [INCARNATION n] [TEST]
abbrev pub recover_line : Grammar
recover_line = word (codes "RECOVER") ▸ word (codes "DATABASE") ▸ optional until_line ▸ optional incarnation_line ▸ flag (codes "TEST") ▸ semicolon

-- an incarnation stands with TEST only
abbrev pub recovery : Option Until → Option ℕ → Bool → Option Command
recovery until inc true = Some (RecoverTest until inc)
recovery until None false = Some (Recover until)
recovery until (Some n) false = None

unfoldable pub recover : Form Command
recover = record { line = recover_line; meaning = λ v. recovery (option_map until_of v.0) (option_map incarnation_of v.1.0) v.1.1.0 }

-- RECOVER COPY OF DATABASE WITH TAG tag [until]
abbrev pub recover_copy_line : Grammar
recover_copy_line = word (codes "RECOVER") ▸ word (codes "COPY") ▸ word (codes "OF") ▸ word (codes "DATABASE") ▸ word (codes "WITH") ▸ tag ▸ optional until_line ▸ semicolon

unfoldable pub recover_copy : Form Command
recover_copy = record { line = recover_copy_line; meaning = λ v. Some (RecoverCopy v.0 (option_map until_of v.1.0)) }
