-- The lexemes that a script is made of.
use Rattle.std.specs.Prelude.{ℕ, ◌≡◌, ◌≤◌, ◌<◌, ◌+◌, ◌-◌, ◌*◌, ◌^◌, ◌==◌, ◌||◌, ◌⊎◌, ⊤, Bool, List, [], ◌∷◌, ◌++◌, length, fold, IsTrue, IsFalse}
use Rattle.std.specs.{Char.{is_ascii_digit, is_ascii_alphabetic}, List.{list_all}}
use Rattle.rm_lang_token.specs.{Tokens.{is_separator, is_word_byte, is_sign, stays_in_line}, Spelling.{is_name, are_string_bytes}}
use Rattle.rm_lang_token.specs.declared.token.Token.{Token, TheVariants.{Word, Number, Quoted, Sign, Bad}}

-- the bytes do not begin with one that passes the test
abbrev pub NoneInFront : (ℕ → Bool) → List ℕ → Type 0
NoneInFront p [] = ⊤
NoneInFront p (c ∷ cs) = IsFalse (p c)

-- the number that decimal digits write
abbrev pub value_of : List ℕ → ℕ
value_of w = fold (λ v c. v * 10 + (c - 48)) 0 w

-- at most 20 digits with a value of at most 2^64 - 1
abbrev pub IsNumber : List ℕ → Type 0
IsNumber w = IsTrue (list_all is_ascii_digit w) × (length w ≤ 20) × (value_of w < 2 ^ 64)

-- what can stand between quotes stands at the front, with a quote behind it
abbrev pub BeginsWithString : List ℕ → Type 0
BeginsWithString bytes = (t : List ℕ) × (rest : List ℕ) × IsTrue (are_string_bytes t) × (bytes ≡ t ++ 39 ∷ rest)

-- a lexeme other than a bad token of this byte alone begins with it
abbrev pub begins_lexeme : ℕ → Bool
begins_lexeme c = is_separator c || (c == 35) || is_ascii_alphabetic c || is_ascii_digit c || (c == 39) || is_sign c

-- The bytes from a line on are lexemes, one behind the other, and the tokens among them are these, each with its line.
pub data Spelled : ℕ → List ℕ → List (ℕ × Token) → Type 0 where
  nothing : (line : ℕ) → Spelled line [] []
  line_feed : (line : ℕ) (rest : List ℕ) (ts : List (ℕ × Token)) → Spelled (line + 1) rest ts → Spelled line (10 ∷ rest) ts
  -- a space, a tab or a carriage return
  separator : (line c : ℕ) (rest : List ℕ) (ts : List (ℕ × Token)) → (c ≡ 32) ⊎ (c ≡ 9) ⊎ (c ≡ 13) → Spelled line rest ts → Spelled line (c ∷ rest) ts
  -- a # and all bytes to the end of the line
  comment : (line : ℕ) (bytes rest : List ℕ) (ts : List (ℕ × Token)) → IsTrue (list_all stays_in_line bytes) → NoneInFront stays_in_line rest → Spelled line rest ts → Spelled line (35 ∷ (bytes ++ rest)) ts
  -- a letter and all letters, digits and underscores behind it
  word : (line : ℕ) (w rest : List ℕ) (ts : List (ℕ × Token)) → IsTrue (is_name w) → NoneInFront is_word_byte rest → Spelled line rest ts → Spelled line (w ++ rest) ((line, Word w) ∷ ts)
  -- digits with no letter, digit or underscore behind them
  number : (line d : ℕ) (ds rest : List ℕ) (ts : List (ℕ × Token)) → IsNumber (d ∷ ds) → NoneInFront is_word_byte rest → Spelled line rest ts → Spelled line (d ∷ (ds ++ rest)) ((line, Number (value_of (d ∷ ds))) ∷ ts)
  -- a digit and all letters, digits and underscores behind it, which are no number
  bad_number : (line d : ℕ) (w rest : List ℕ) (ts : List (ℕ × Token)) → IsTrue (is_ascii_digit d) → IsTrue (list_all is_word_byte w) → ¬ IsNumber (d ∷ w) → NoneInFront is_word_byte rest → Spelled line rest ts → Spelled line (d ∷ (w ++ rest)) ((line, Bad) ∷ ts)
  string : (line : ℕ) (t rest : List ℕ) (ts : List (ℕ × Token)) → IsTrue (are_string_bytes t) → Spelled line rest ts → Spelled line (39 ∷ (t ++ 39 ∷ rest)) ((line, Quoted t) ∷ ts)
  -- a quote that begins no string, and all bytes to the end of the line
  bad_string : (line : ℕ) (bytes rest : List ℕ) (ts : List (ℕ × Token)) → ¬ BeginsWithString (bytes ++ rest) → IsTrue (list_all stays_in_line bytes) → NoneInFront stays_in_line rest → Spelled line rest ts → Spelled line (39 ∷ (bytes ++ rest)) ((line, Bad) ∷ ts)
  sign : (line c : ℕ) (rest : List ℕ) (ts : List (ℕ × Token)) → IsTrue (is_sign c) → Spelled line rest ts → Spelled line (c ∷ rest) ((line, Sign c) ∷ ts)
  other : (line c : ℕ) (rest : List ℕ) (ts : List (ℕ × Token)) → IsFalse (begins_lexeme c) → Spelled line rest ts → Spelled line (c ∷ rest) ((line, Bad) ∷ ts)
