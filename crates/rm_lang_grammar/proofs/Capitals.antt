-- Tags in capitals.
use Rattle.std.specs.{Prelude.{nat_le}, List.{list_all}, Char.{to_ascii_uppercase}, Str.{bytes_eq}}
use Rattle.std.proofs.{Common.{◌≡◌, refl, arith, ◌==◌, ◌&&◌, ℕ, List, [], ◌∷◌, Bool, true, length}, lemmas.Bool.{and_parts, and_from}}
use Rattle.std.proofs.lemmas.Bool.Decides.{nat_tests}
use Rattle.rm_lang_token.specs.{Tokens.{is_word_byte, is_string_byte}, Spelling.{are_string_bytes}}
use Rattle.rm_lang_grammar.specs.{Grammar.{capitals, is_tag}, Spelling.{is_capital_tag}}

-- no small letter
abbrev pub is_capital : ℕ → Bool
is_capital c = c == to_ascii_uppercase c

pub capitals-all : (w : List ℕ) → list_all is_capital w ≡ bytes_eq w (capitals w)
capitals-all [] = refl
capitals-all (c ∷ cs) = rw (capitals-all cs) refl

word_byte-string : (c : ℕ) → is_word_byte c ≡ true → is_string_byte c ≡ true
word_byte-string c h = grind (arith, nat_tests)

word_bytes-string : (w : List ℕ) → list_all is_word_byte w ≡ true → list_all is_string_byte w ≡ true
word_bytes-string [] h = refl
word_bytes-string (c ∷ cs) h =
    let b = and_parts (is_word_byte c) (list_all is_word_byte cs) h in
    and_from (is_string_byte c) (list_all is_string_byte cs) (word_byte-string c b.0) (word_bytes-string cs b.1)

longer : (n : ℕ) → nat_le n 30 ≡ true → nat_le n 64 ≡ true
longer n h = grind (arith, nat_tests)

-- a tag can stand between quotes
pub capital_tag-string : (w : List ℕ) → is_capital_tag w ≡ true → are_string_bytes w ≡ true
capital_tag-string w h =
    let tag = (and_parts (is_tag w) (bytes_eq w (capitals w)) h).0 in
    let parts = and_parts (nat_le 1 (length w) && nat_le (length w) 30) (list_all is_word_byte w) tag in
    let short = (and_parts (nat_le 1 (length w)) (nat_le (length w) 30) parts.0).1 in
    and_from (nat_le (length w) 64) (list_all is_string_byte w) (longer (length w) short) (word_bytes-string w parts.1)
