-- Numbers with commas between.
use Rattle.std.proofs.{Common.{◌≡◌, refl, ap, ℕ, ◌+◌, ◌<◌, add-one, List, [], ◌∷◌, ◌++◌, length, get_or, take}, Math.Seq.{take-suc}}
use Rattle.rm_lang_token.specs.declared.token.Token.{Token, TheVariants.{Number, Sign}}
use Rattle.rm_lang_grammar.specs.Spelling.{more_spelled}

more_spelled-append : (ms ns : List ℕ) → more_spelled (ms ++ ns) ≡ more_spelled ms ++ more_spelled ns
more_spelled-append [] ns = refl
more_spelled-append (m ∷ ms) ns = ap (λ (ts : List Token). Sign 44 ∷ Number m ∷ ts) (more_spelled-append ms ns)

-- one number more
pub more_push : (ns : List ℕ) (i d : ℕ) → i < length ns → more_spelled (take (i + 1) ns) ≡ more_spelled (take i ns) ++ (Sign 44 ∷ Number (get_or ns i d) ∷ [])
more_push ns i d h = rw (add-one, take-suc ns i d h) (more_spelled-append (take i ns) (get_or ns i d ∷ []))
