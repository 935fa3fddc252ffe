-- The statements that stand for what may befall the devices, and the command that each one is.
use Rattle.std.specs.Prelude.{Some, codes}
use Rattle.rm_lang_grammar.specs.{Grammar.{◌▸◌, Grammar, semicolon, word, number, text, any}, Forms.{Form}}
use Rattle.rm_lang_statement.specs.{Texts.{plain, new_name}, declared.command.Command.{Command}}
use Rattle.rm_lang_statement.specs.declared.command.Command.TheVariants.{LoseDatafile, LoseLog, Corrupt, Remove, Damage, Cut, Rename}

-- HOST LOSE DATAFILE n
abbrev pub lose_datafile_line : Grammar
lose_datafile_line = word (codes "HOST") ▸ word (codes "LOSE") ▸ word (codes "DATAFILE") ▸ number any ▸ semicolon

unfoldable pub lose_datafile : Form Command
lose_datafile = record { line = lose_datafile_line; meaning = λ v. Some (LoseDatafile v.0) }

-- HOST LOSE LOG THREAD n
abbrev pub lose_log_line : Grammar
lose_log_line = word (codes "HOST") ▸ word (codes "LOSE") ▸ word (codes "LOG") ▸ word (codes "THREAD") ▸ number any ▸ semicolon

unfoldable pub lose_log : Form Command
lose_log = record { line = lose_log_line; meaning = λ v. Some (LoseLog v.0) }

-- HOST CORRUPT DATAFILE n BLOCK n
abbrev pub corrupt_line : Grammar
corrupt_line = word (codes "HOST") ▸ word (codes "CORRUPT") ▸ word (codes "DATAFILE") ▸ number any ▸ word (codes "BLOCK") ▸ number any ▸ semicolon

unfoldable pub corrupt : Form Command
corrupt = record { line = corrupt_line; meaning = λ v. Some (Corrupt v.0 v.1.0) }

-- HOST REMOVE 't'
abbrev pub remove_line : Grammar
remove_line = word (codes "HOST") ▸ word (codes "REMOVE") ▸ text plain ▸ semicolon

unfoldable pub remove : Form Command
remove = record { line = remove_line; meaning = λ v. Some (Remove v.0) }

-- HOST DAMAGE 't' AT n
abbrev pub damage_line : Grammar
damage_line = word (codes "HOST") ▸ word (codes "DAMAGE") ▸ text plain ▸ word (codes "AT") ▸ number any ▸ semicolon

unfoldable pub damage : Form Command
damage = record { line = damage_line; meaning = λ v. Some (Damage v.0 v.1.0) }

-- HOST CUT 't' TO n
abbrev pub cut_line : Grammar
cut_line = word (codes "HOST") ▸ word (codes "CUT") ▸ text plain ▸ word (codes "TO") ▸ number any ▸ semicolon

unfoldable pub cut : Form Command
cut = record { line = cut_line; meaning = λ v. Some (Cut v.0 v.1.0) }

-- HOST RENAME 't' TO 't'
abbrev pub rename_line : Grammar
rename_line = word (codes "HOST") ▸ word (codes "RENAME") ▸ text plain ▸ word (codes "TO") ▸ text new_name ▸ semicolon

unfoldable pub rename : Form Command
rename = record { line = rename_line; meaning = λ v. Some (Rename v.0 v.1.0) }
