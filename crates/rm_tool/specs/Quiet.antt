-- Which statements leave all as it was.
use Rattle.std.specs.{Prelude.{ℕ, ◌&&◌, Bool, true, List, [], ◌∷◌, Option, Some, None}, List.{list_all}}
use Rattle.rm_lang_statement.specs.declared.command.Inner.{Inner, TheVariants.{SetUntil, AllocateChannel, Plain as PlainInner}}
use Rattle.rm_lang_statement.specs.declared.command.Statement.{Statement, TheVariants.{Plain, Run as Block}}
use Rattle.rm_lang_token.specs.declared.token.Token.{Token}
use Rattle.rm_machine.specs.Laws.{only_tells}
use Rattle.rm_report.specs.declared.line.Reply.{Reply}
use Rattle.rm_tool_opening.specs.Untouched.{is_quiet}
use Rattle.rm_tool.specs.Built.{statement_built_at}

-- the statement of a RUN only tells, or sets what holds for those behind it
abbrev pub only_tells_inner : Inner → Bool
only_tells_inner (PlainInner c) = only_tells c
only_tells_inner (SetUntil until) = true
only_tells_inner AllocateChannel = true

-- whatever is answered it leaves all as it was: it is none that is built, or it only tells, and so does each statement of a RUN
abbrev pub only_tells_statement : Option Statement → Bool
only_tells_statement None = true
only_tells_statement (Some (Plain c)) = only_tells c
only_tells_statement (Some (Block inner)) = list_all only_tells_inner inner

-- It is no statement that is built, or it was refused, or it only tells. Of a RUN each statement only tells or sets.
abbrev pub is_quiet_statement : Option Statement → Reply → Bool
is_quiet_statement None reply = true
is_quiet_statement (Some (Plain c)) reply = is_quiet c reply
is_quiet_statement (Some (Block inner)) reply = list_all only_tells_inner inner

-- so is each of these, with these replies
abbrev pub are_quiet : List (ℕ × List Token) → List Reply → Bool
are_quiet [] replies = true
are_quiet (s ∷ ss) [] = true
are_quiet (s ∷ ss) (r ∷ rs) = is_quiet_statement (statement_built_at s.1) r && are_quiet ss rs
