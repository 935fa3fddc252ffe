-- A command with the until of its RUN.
use Rattle.std.proofs.Common.{◌≡◌, ◌&&◌, ◌∙◌, Bool, Option, Some, None, true, ap, refl}
use Rattle.rm_lang_statement.specs.{IsCommand.{is_command, is_until_or_none}, declared.command.Command.{Command}}
use Rattle.rm_lang_statement.specs.declared.command.Command.TheVariants.{Restore, Preview, Recover, RecoverTest, RecoverCopy}
use Rattle.rm_lang_statement.specs.declared.command.Until.{Until}
use Rattle.rm_machine.specs.{Built.{is_built}, Nature.{nature_of}}
use Rattle.rm_tool.specs.Block.{with_until}

-- it is built
pub built_with : (set : Option Until) (c : Command) → is_built c ≡ true → is_built (with_until set c) ≡ true
built_with set (Restore file until) built = built
built_with set (Preview until) built = built
built_with set (Recover until) built = built
built_with set (RecoverTest until inc) built = built
built_with set (RecoverCopy tag until) built = built
built_with set _ built = built

both-true : (a b : Bool) → (a && true) ≡ true → b ≡ true → (a && b) ≡ true
both-true a b first last = ap (λ c. a && c) last ∙ first

-- it is one of the grammar
pub command_with : (set : Option Until) (c : Command) → is_until_or_none set ≡ true → is_command c ≡ true → is_command (with_until set c) ≡ true
command_with set (Restore file None) is command = is
command_with set (Restore file (Some until)) is command = command
command_with set (Preview None) is command = is
command_with set (Preview (Some until)) is command = command
command_with set (Recover None) is command = is
command_with set (Recover (Some until)) is command = command
command_with set (RecoverTest None inc) is command = is
command_with set (RecoverTest (Some until) inc) is command = command
command_with set (RecoverCopy tag None) is command = both-true _ _ command is
command_with set (RecoverCopy tag (Some until)) is command = command
command_with set _ is command = command

-- and it is of the same nature
pub nature_with : (set : Option Until) (c : Command) → nature_of (with_until set c) ≡ nature_of c
nature_with set (Restore file until) = refl
nature_with set (Preview until) = refl
nature_with set (Recover until) = refl
nature_with set (RecoverTest until inc) = refl
nature_with set (RecoverCopy tag until) = refl
nature_with set _ = refl
