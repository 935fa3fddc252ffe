use Rattle.std.proofs.Common.{◌≡◌, ◌++◌, drop}
use Rattle.rm_lang_token.specs.Spelling.{tokens_text}
use Rattle.rm_lang_token.proofs.spelling.text_of.Given as goal

abbrev pub invariant-loop-token : goal.invariant-loop-token
invariant-loop-token l = l.text.items ++ tokens_text (drop l.token-index l.tokens) ≡ tokens_text l.tokens
