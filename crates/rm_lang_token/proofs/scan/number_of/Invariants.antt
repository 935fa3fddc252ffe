use Rattle.std.proofs.Common.{◌≡◌, drop}
use Rattle.rm_lang_token.specs.Tokens.{number_after}
use Rattle.rm_lang_token.proofs.scan.number_of.Given as goal

abbrev pub invariant-loop-digit : goal.invariant-loop-digit
invariant-loop-digit l = number_after l.value (drop l.digit-index l.digits) ≡ number_after l.front l.digits
