-- The statements that change the mode, and the command that each one is.
use Rattle.std.specs.Prelude.{Bool, true, false, Some, codes}
use Rattle.rm_lang_grammar.specs.{Grammar.{◌▸◌, Grammar, semicolon, word, flag, noise, number, any}, Forms.{Form}}
use Rattle.rm_lang_statement.specs.declared.command.Command.{Command, TheVariants.{Mount, OpenPlain, OpenResetlogs, ResetDatabase}}

-- SHUTDOWN [IMMEDIATE]
abbrev pub shutdown_line : Grammar
shutdown_line = word (codes "SHUTDOWN") ▸ noise (codes "IMMEDIATE") ▸ semicolon

unfoldable pub shutdown : Form Command
shutdown = record { line = shutdown_line; meaning = λ v. Some Mount }

-- STARTUP [FORCE] MOUNT
abbrev pub startup_line : Grammar
startup_line = word (codes "STARTUP") ▸ noise (codes "FORCE") ▸ word (codes "MOUNT") ▸ semicolon

unfoldable pub startup : Form Command
startup = record { line = startup_line; meaning = λ v. Some Mount }

-- RESET DATABASE TO INCARNATION n
abbrev pub reset_database_line : Grammar
reset_database_line = word (codes "RESET") ▸ word (codes "DATABASE") ▸ word (codes "TO") ▸ word (codes "INCARNATION") ▸ number any ▸ semicolon

unfoldable pub reset_database : Form Command
reset_database = record { line = reset_database_line; meaning = λ v. Some (ResetDatabase v.0) }

-- ALTER DATABASE OPEN [RESETLOGS]
abbrev pub open_database_line : Grammar
open_database_line = word (codes "ALTER") ▸ word (codes "DATABASE") ▸ word (codes "OPEN") ▸ flag (codes "RESETLOGS") ▸ semicolon

abbrev pub open_command : Bool → Command
open_command true = OpenResetlogs
open_command false = OpenPlain

unfoldable pub open_database : Form Command
open_database = record { line = open_database_line; meaning = λ v. Some (open_command v.0) }
