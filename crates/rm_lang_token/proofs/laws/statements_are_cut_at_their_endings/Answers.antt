use Rattle.std.proofs.Common.{ℕ, List, sym, subst}
use Rattle.rm_lang_token.{specs.{Cuts.{Cuts}, Tokens.{tokens}, declared.token.Token.{Token}}, proofs.Cutting.{cut-Cuts, cuts-only}}
use Rattle.rm_lang_token.proofs.laws.statements_are_cut_at_their_endings.Goals as goal

pub returns : goal.returns
returns c = λ script ss. (λ cut. cuts-only (tokens script) ss cut 1, λ same. subst (λ (xs : List (ℕ × List Token)). Cuts (tokens script) xs) (sym same) (cut-Cuts (tokens script)))
