-- The statements of a token list.
use Rattle.std.specs.Prelude.{ℕ, ◌+◌, ◌-◌, ◌==◌, ◌&&◌, ◌||◌, if◌then◌else◌, Bool, false, List, [], ◌∷◌, ◌++◌, length, codes}
use Rattle.std.specs.Str.{str_eq_ignore_ascii_case}
use Rattle.rm_lang_token.specs.{Tokens.{tokens}, declared.token.Token.{Token, TheVariants.{Word, Sign}}}

abbrev pub is_word : List ℕ → Token → Bool
is_word name (Word w) = str_eq_ignore_ascii_case w name
is_word name t = false

abbrev pub is_the_sign : ℕ → Token → Bool
is_the_sign c (Sign d) = d == c
is_the_sign c t = false

-- how many braces are open
abbrev pub depth_after : ℕ → Token → ℕ
depth_after depth t = if is_the_sign 123 t then depth + 1 else if is_the_sign 125 t then depth - 1 else depth

abbrev pub begins_run : List Token → Bool
begins_run [] = false
begins_run (t ∷ ts) = is_word (codes "RUN") t

-- A statement whose tokens so far are front ends at t: at a ; outside braces, or, where its first token is RUN, at the } that closes its first brace.
abbrev pub ends_at : List Token → ℕ → Token → Bool
ends_at front depth t = ((depth == 0) && is_the_sign 59 t) || (begins_run front && (depth == 1) && is_the_sign 125 t)

-- A statement that has begun: its tokens so far, the line of the first one, and how many of its braces are open.
pub record Begun : Type 0 where
  pub front : List Token
  pub line : ℕ
  pub depth : ℕ

abbrev pub nothing_begun : Begun
nothing_begun = record { front = []; line = 1; depth = 0 }

abbrev pub line_of : Begun → ℕ → ℕ
line_of b line = if length b.front == 0 then line else b.line

abbrev pub skips : Begun → Token → Bool
skips b t = (length b.front == 0) && is_the_sign 59 t

-- what has begun after a token
abbrev pub after : Begun → ℕ → Token → Begun
after b line t =
    if skips b t || ends_at b.front b.depth t then record { front = []; line = line_of b line; depth = 0 }
    else record { front = b.front ++ t ∷ []; line = line_of b line; depth = depth_after b.depth t }

-- the statement that ends at a token, if one does
abbrev pub ended : Begun → ℕ → Token → List (ℕ × List Token)
ended b line t =
    if skips b t then []
    else if ends_at b.front b.depth t then (line_of b line, b.front ++ t ∷ []) ∷ []
    else []

-- tokens without an ending
abbrev pub left_over : Begun → List (ℕ × List Token)
left_over b = if length b.front == 0 then [] else (b.line, b.front) ∷ []

-- the statements of the tokens behind what has begun
abbrev pub cut : Begun → List (ℕ × Token) → List (ℕ × List Token)
cut b [] = left_over b
cut b (p ∷ ps) = ended b p.0 p.1 ++ cut (after b p.0 p.1) ps

abbrev pub statements : List ℕ → List (ℕ × List Token)
statements script = cut nothing_begun (tokens script)
