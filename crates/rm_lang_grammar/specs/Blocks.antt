-- Commands one behind the other, and a block of them in braces.
use Rattle.std.specs.Prelude.{◌≡◌, ◌&&◌, ℕ, List, [], ◌∷◌, Option, Some, Bool, true, false, not, length, IsTrue}
use Rattle.rm_lang_token.specs.{Statements.{is_word, is_the_sign}, declared.token.Token.{Token, TheVariants.{Sign}}}
use Rattle.rm_lang_grammar.specs.{Grammar.{Grammar, word, SpellsMany}, Reading.{◌>>=◌, word_at, sign_at, many_at}}
use Rattle.rm_lang_grammar.specs.Forms.{Form, IsByOne, command_in}

-- The tokens begin with NAME { .. }, where the commands stand in the braces, one behind the other, each by one of the forms; rest is behind it.
abbrev pub IsBlock : {C : Type 0} → List ℕ → List (Form C) → List C → List Token → List Token → Type 0
IsBlock k fs cs ts rest = (t : Token) × (us : List Token) × (ts ≡ t ∷ Sign 123 ∷ us) × IsTrue (is_word k t) × SpellsMany (IsByOne fs) cs us (Sign 125 ∷ rest)

-- no } stands first
abbrev pub goes_on : List Token → Bool
goes_on [] = false
goes_on (t ∷ ts) = not (is_the_sign 125 t)

-- the commands before a }, and what is behind them
abbrev pub commands_in : {C : Type 0} → List (Form C) → List Token → Option (List C × List Token)
commands_in fs ts = many_at goes_on (command_in fs) (length ts) ts

-- the commands of a block, and what is behind it
abbrev pub block_at : {C : Type 0} → List ℕ → List (Form C) → List Token → Option (List C × List Token)
block_at k fs ts = word_at k ts >>= λ us. sign_at 123 us >>= λ vs. commands_in fs vs >>= λ x. sign_at 125 x.1 >>= λ rest. Some (x.0, rest)

-- a word stands first in the line
abbrev pub leads : Grammar → Bool
leads (word k g) = true
leads g = false

-- in each of them
abbrev pub are_led : {C : Type 0} → List (Form C) → Bool
are_led [] = true
are_led (f ∷ fs) = leads f.line && are_led fs
