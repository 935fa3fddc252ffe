-- The statements that are built.
use Rattle.std.specs.Prelude.{Bool}
use Rattle.rm_lang_statement.specs.declared.command.Command.{Command}
use Rattle.rm_machine.specs.Nature.{has_step, nature_of}

-- The machine has a step for the statement.
abbrev pub is_built : Command → Bool
is_built c = has_step (nature_of c)
