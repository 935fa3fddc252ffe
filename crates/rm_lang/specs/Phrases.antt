-- Words, one after another.
use Rattle.std.specs.{Prelude.{ℕ, List, map, Bool}, Borrow.{Bor}, List.{list_all}}
use Rattle.rm_lang_token.specs.{Spelling.{is_name}, declared.token.Token.{Token, TheVariants.{Word}}}

-- the words as tokens
abbrev pub worded : List (Bor (List ℕ)) → List Token
worded names = map (λ name. Word name.now) names

-- each is a name
abbrev pub are_names : List (Bor (List ℕ)) → Bool
are_names names = list_all (λ name. is_name name.now) names
