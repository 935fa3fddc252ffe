-- Statements inside a RUN.
use Rattle.std.proofs.Common.{◌≡◌, List, map}
use Rattle.rm_lang_token.specs.declared.token.Token.{Token}
use Rattle.rm_lang_grammar.{specs.{Reading.{◌>>=◌}, Forms.{as_form, command_in}}, proofs.Within.{within, in_as}}
use Rattle.rm_lang_statement.specs.declared.command.Inner.TheVariants.{Plain}
use Rattle.rm_lang_reading.specs.Language.{forms}

-- a command, as a statement inside
pub plain_inside : (ts : List Token) → command_in (map (as_form Plain) forms) ts ≡ (command_in forms ts >>= within Plain)
plain_inside ts = in_as Plain forms ts

pub ruleset inside = (plain_inside)
