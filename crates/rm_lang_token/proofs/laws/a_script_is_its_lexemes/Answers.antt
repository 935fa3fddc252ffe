use Rattle.std.proofs.Common.{ℕ, List, sym, subst}
use Rattle.rm_lang_token.{specs.{Lexemes.{Spelled}, declared.token.Token.{Token}}, proofs.OneSpelling.{spelled-only}}
use Rattle.rm_lang_token.proofs.Spelled.{tokens-Spelled}
use Rattle.rm_lang_token.proofs.laws.a_script_is_its_lexemes.Goals as goal

pub returns : goal.returns
returns c = λ script ts. (spelled-only 1 script ts, λ same. subst (λ (xs : List (ℕ × Token)). Spelled 1 script xs) (sym same) (tokens-Spelled script))
