-- The statements that the program answers by steps.
use Rattle.std.specs.{Prelude.{if◌then◌else◌, Option, Some, None, List, Bool, true}, List.{list_all}}
use Rattle.rm_lang_statement.specs.declared.command.Inner.{Inner, TheVariants.{AllocateChannel, Plain as PlainInner, SetUntil}}
use Rattle.rm_lang_statement.specs.declared.command.Statement.{Statement, TheVariants.{Plain, Run}}
use Rattle.rm_lang_reading.specs.Language.{statement_at}
use Rattle.rm_machine.specs.Built.{is_built}
use Rattle.rm_lang_token.specs.declared.token.Token.{Token}

-- a statement of a RUN
abbrev pub is_built_inner : Inner → Bool
is_built_inner (PlainInner c) = is_built c
is_built_inner (SetUntil until) = true
is_built_inner AllocateChannel = true

-- a RUN is built where each of its statements is
abbrev pub is_built_statement : Statement → Bool
is_built_statement (Plain c) = is_built c
is_built_statement (Run inner) = list_all is_built_inner inner

abbrev pub if_built : Option Statement → Option Statement
if_built (Some s) = if is_built_statement s then Some s else None
if_built None = None

-- the statement that the tokens are, where they are one of the grammar that is built
unfoldable pub statement_built_at : List Token → Option Statement
statement_built_at ts = if_built (statement_at ts)
