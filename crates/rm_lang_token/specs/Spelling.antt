-- Tokens as text.
use Rattle.std.specs.Prelude.{ℕ, ◌^◌, ◌==◌, ◌&&◌, nat_lt, nat_le, not, if◌then◌else◌, Bool, false, List, [], ◌∷◌, ◌++◌, length}
use Rattle.std.specs.{Char.{is_ascii_alphabetic}, Fmt.{decimal}, List.{list_all}}
use Rattle.rm_lang_token.specs.{Tokens.{is_word_byte, is_string_byte, is_sign}, Statements.{is_the_sign, depth_after, ends_at}}
use Rattle.rm_lang_token.specs.declared.token.Token.{Token, TheVariants.{Word, Number, Quoted, Sign, Bad}}

-- what can stand between quotes: at most 64 string bytes
abbrev pub are_string_bytes : List ℕ → Bool
are_string_bytes t = nat_le (length t) 64 && list_all is_string_byte t

-- a letter and word bytes behind it
abbrev pub is_name : List ℕ → Bool
is_name [] = false
is_name (c ∷ cs) = is_ascii_alphabetic c && list_all is_word_byte cs

-- a token that can be written
abbrev pub is_plain : Token → Bool
is_plain (Word w) = is_name w
is_plain (Number n) = nat_lt n (2 ^ 64)
is_plain (Quoted t) = are_string_bytes t
is_plain (Sign c) = is_sign c
is_plain Bad = false

-- the bytes of a token: numbers in decimal, strings between quotes
abbrev pub token_text : Token → List ℕ
token_text (Word w) = w
token_text (Number n) = decimal n
token_text (Quoted t) = 39 ∷ (t ++ 39 ∷ [])
token_text (Sign c) = c ∷ []
token_text Bad = []

-- the bytes of tokens, with a space behind each
abbrev pub tokens_text : List Token → List ℕ
tokens_text [] = []
tokens_text (t ∷ ts) = token_text t ++ 32 ∷ tokens_text ts

-- A statement that has begun with front, where so many braces are open, ends at the last token of the list and at none before.
abbrev pub ends_with : List Token → ℕ → List Token → Bool
ends_with front depth [] = false
ends_with front depth (t ∷ ts) = if ends_at front depth t then length ts == 0 else ends_with (front ++ t ∷ []) (depth_after depth t) ts

-- The tokens are one statement with its ending.
abbrev pub is_statement : List Token → Bool
is_statement [] = false
is_statement (t ∷ ts) = not (is_the_sign 59 t) && ends_with (t ∷ []) (depth_after 0 t) ts
