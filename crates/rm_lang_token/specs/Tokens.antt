-- The tokens of a byte list.
use Rattle.std.specs.Prelude.{ℕ, zero, suc, ◌+◌, ◌*◌, ◌-◌, ◌^◌, ◌==◌, ◌&&◌, ◌||◌, nat_lt, nat_le, not, if◌then◌else◌, Bool, Option, Some, None, List, [], ◌∷◌, ◌++◌, length, take, slice_index}
use Rattle.std.specs.{List.{prefix_len}, Char.{is_ascii_digit, is_ascii_alphabetic, is_ascii_alphanumeric}}
use Rattle.rm_lang_token.specs.declared.{token.Token.{Token, TheVariants.{Word, Number, Quoted, Sign, Bad}}, scan.Lexeme.{Lexeme}}

-- space, tab, carriage return and line feed
abbrev pub is_separator : ℕ → Bool
is_separator c = (c == 32) || (c == 9) || (c == 13) || (c == 10)

abbrev pub is_word_byte : ℕ → Bool
is_word_byte c = is_ascii_alphanumeric c || (c == 95)

-- what may stand in a string: the bytes 0x20 to 0x7E without the quote
abbrev pub is_string_byte : ℕ → Bool
is_string_byte c = nat_le 32 c && nat_le c 126 && not (c == 39)

-- ; , { }
abbrev pub is_sign : ℕ → Bool
is_sign c = (c == 59) || (c == 44) || (c == 123) || (c == 125)

abbrev pub stays_in_line : ℕ → Bool
stays_in_line c = not (c == 10)

-- the number that the digits spell behind a value, where all are digits and it is at most 2^64 - 1
abbrev pub number_after : ℕ → List ℕ → Option ℕ
number_after value [] = Some value
number_after value (c ∷ cs) = if is_ascii_digit c && nat_lt (value * 10 + (c - 48)) (2 ^ 64) then number_after (value * 10 + (c - 48)) cs else None

abbrev pub number_or_bad : Option ℕ → Token
number_or_bad (Some n) = Number n
number_or_bad None = Bad

-- 1 to 20 digits with a value of at most 2^64 - 1 are a number
abbrev pub number_token : List ℕ → Token
number_token w = if nat_lt 20 (length w) then Bad else number_or_bad (number_after 0 w)

-- a letter and the word bytes behind it
abbrev pub word_lexeme : ℕ → List ℕ → Lexeme
word_lexeme c cs =
    let n = prefix_len is_word_byte cs in
    record { size = 1 + n; token = Some (Word (c ∷ take n cs)) }

-- a digit and the word bytes behind it
abbrev pub number_lexeme : ℕ → List ℕ → Lexeme
number_lexeme c cs =
    let n = prefix_len is_word_byte cs in
    record { size = 1 + n; token = Some (number_token (c ∷ take n cs)) }

-- at most 64 bytes and a closing quote; or else a bad token to the end of the line
abbrev pub string_lexeme : List ℕ → Lexeme
string_lexeme cs =
    let n = prefix_len is_string_byte cs in
    if nat_le n 64 && (slice_index cs n == 39)
    then record { size = n + 2; token = Some (Quoted (take n cs)) }
    else record { size = 1 + prefix_len stays_in_line cs; token = Some Bad }

-- the lexeme that begins with c, where cs are the bytes behind it
abbrev pub lexeme : ℕ → List ℕ → Lexeme
lexeme c cs =
    if is_separator c then record { size = 1; token = None }
    else if c == 35 then record { size = 1 + prefix_len stays_in_line cs; token = None }
    else if is_ascii_alphabetic c then word_lexeme c cs
    else if is_ascii_digit c then number_lexeme c cs
    else if c == 39 then string_lexeme cs
    else if is_sign c then record { size = 1; token = Some (Sign c) }
    else record { size = 1; token = Some Bad }

abbrev pub line_after : ℕ → ℕ → ℕ
line_after line c = if c == 10 then line + 1 else line

abbrev pub placed : ℕ → Option Token → List (ℕ × Token)
placed line None = []
placed line (Some t) = (line, t) ∷ []

-- The tokens of the bytes, each with its line. The first `skip` bytes belong to a lexeme that began before.
abbrev pub tokens_from : ℕ → ℕ → List ℕ → List (ℕ × Token)
tokens_from line skip [] = []
tokens_from line zero (c ∷ cs) = placed line (lexeme c cs).token ++ tokens_from (line_after line c) ((lexeme c cs).size - 1) cs
tokens_from line (suc n) (c ∷ cs) = tokens_from (line_after line c) n cs

abbrev pub tokens : List ℕ → List (ℕ × Token)
tokens script = tokens_from 1 0 script

-- how many line feeds
abbrev pub feeds : List ℕ → ℕ
feeds [] = 0
feeds (c ∷ cs) = if c == 10 then feeds cs + 1 else feeds cs
