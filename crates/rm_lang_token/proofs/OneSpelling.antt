-- Bytes spell one token list.
use Rattle.std.specs.{Char.{is_ascii_alphabetic, is_ascii_digit}, List.{list_all, prefix_len}}
use Rattle.std.proofs.Common.{◌≡◌, ◌+◌, ◌-◌, ◌++◌, ◌∷◌, ◌==◌, ◌&&◌, ◌||◌, ◌∙◌, ◌⊎◌, ℕ, Bool, List, [], true, false, length, Some, refl, ap, sym, arith, get_or, nat_le, append_assoc}
use Rattle.std.proofs.lemmas.Bool.{and_parts, or_parts, Decides.{nat_tests}}
use Rattle.rm_lang_token.specs.Tokens.{is_separator, is_word_byte, is_string_byte, is_sign, stays_in_line, number_token, lexeme, tokens_from}
use Rattle.rm_lang_token.specs.Spelling.{is_name, are_string_bytes}
use Rattle.rm_lang_token.specs.Lexemes.{NoneInFront, value_of, IsNumber, BeginsWithString, begins_lexeme, Spelled, nothing, line_feed, separator, comment, word, number, bad_number, string, bad_string, sign, other}
use Rattle.rm_lang_token.specs.declared.token.Token.{Token, TheVariants.{Word, Number, Quoted, Sign, Bad}}
use Rattle.rm_lang_token.proofs.Reading.{list_all-wider, prefix_len-whole, tokens_from-skip, tokens_from-lexeme}
use Rattle.rm_lang_token.proofs.ReadBack.{word-stays, digit-word, lexeme-word, lexeme-number, lexeme-string, lexeme-sign, token_text-stays}
use Rattle.rm_lang_token.proofs.{Digits.{ReadsNumber, is_number, is_bad, number_token-reads}, Spelled.{begins_string}}

number-only : (w : List ℕ) (t : Token) → ReadsNumber w t → IsNumber w → t ≡ Number (value_of w)
number-only w _ (is_number h) n = refl
number-only w _ (is_bad h) n = absurd (h n)

bad-only : (w : List ℕ) (t : Token) → ReadsNumber w t → ¬ IsNumber w → t ≡ Bad
bad-only w _ (is_number h) n = absurd (n h)
bad-only w _ (is_bad h) n = refl

-- a comment's bytes are passed
comment-only : (line : ℕ) (bytes rest : List ℕ) → list_all stays_in_line bytes ≡ true → NoneInFront stays_in_line rest → tokens_from line 0 (35 ∷ (bytes ++ rest)) ≡ tokens_from line 0 rest
comment-only line bytes rest h stop =
    let less : (1 + length bytes) - 1 ≡ length bytes = omega arith in
    rw (prefix_len-whole stays_in_line bytes rest h stop, less) (tokens_from-skip line bytes rest h)

word-only : (line : ℕ) (w rest : List ℕ) → is_name w ≡ true → NoneInFront is_word_byte rest → tokens_from line 0 (w ++ rest) ≡ (line, Word w) ∷ tokens_from line 0 rest
word-only line [] rest h stop = cc
word-only line (c ∷ cs) rest h stop =
    let parts = and_parts (is_ascii_alphabetic c) (list_all is_word_byte cs) h in
    tokens_from-lexeme line c cs rest (Word (c ∷ cs)) (lexeme-word c cs rest parts.0 parts.1 stop) (token_text-stays (Word (c ∷ cs)) h)

digits-only : (line d : ℕ) (w rest : List ℕ) → is_ascii_digit d ≡ true → list_all is_word_byte w ≡ true → NoneInFront is_word_byte rest → tokens_from line 0 (d ∷ (w ++ rest)) ≡ (line, number_token (d ∷ w)) ∷ tokens_from line 0 rest
digits-only line d w rest digit bytes stop =
    let stays : list_all stays_in_line (d ∷ w) ≡ true = rw (word-stays d (digit-word d digit)) (list_all-wider is_word_byte stays_in_line word-stays w bytes) in
    tokens_from-lexeme line d w rest (number_token (d ∷ w)) (lexeme-number d w rest digit bytes stop) stays

string-only : (line : ℕ) (t rest : List ℕ) → are_string_bytes t ≡ true → tokens_from line 0 (39 ∷ (t ++ 39 ∷ rest)) ≡ (line, Quoted t) ∷ tokens_from line 0 rest
string-only line t rest h =
    ap (λ xs. tokens_from line 0 (39 ∷ xs)) (sym (append_assoc t (39 ∷ []) rest)) ∙
    tokens_from-lexeme line 39 (t ++ 39 ∷ []) rest (Quoted t) (lexeme-string t rest h) (token_text-stays (Quoted t) h)

lexeme-bad_string : (bytes rest : List ℕ) → ¬ BeginsWithString (bytes ++ rest) → list_all stays_in_line bytes ≡ true → NoneInFront stays_in_line rest → lexeme 39 (bytes ++ rest) ≡ record { size = 1 + length bytes; token = Some Bad }
lexeme-bad_string bytes rest none h stop = by_cases (nat_le size 64 && (get_or cs size 0 == 39)) refl
  where
    cs : List ℕ
    cs = bytes ++ rest

    size : ℕ
    size = prefix_len is_string_byte cs

    by_cases : (b : Bool) → (nat_le size 64 && (get_or cs size 0 == 39)) ≡ b → lexeme 39 cs ≡ record { size = 1 + length bytes; token = Some Bad }
    by_cases true e = absurd (none (begins_string cs e))
    by_cases false e = rw (e, prefix_len-whole stays_in_line bytes rest h stop) refl

other-stays : (c : ℕ) → begins_lexeme c ≡ false → stays_in_line c ≡ true
other-stays c h = grind (arith, nat_tests)

lexeme-other : (c : ℕ) (cs : List ℕ) → begins_lexeme c ≡ false → lexeme c cs ≡ record { size = 1 + 0; token = Some Bad }
lexeme-other c cs h =
    let signs = or_parts (is_separator c || (c == 35) || is_ascii_alphabetic c || is_ascii_digit c || (c == 39)) (is_sign c) h in
    let quotes = or_parts (is_separator c || (c == 35) || is_ascii_alphabetic c || is_ascii_digit c) (c == 39) signs.0 in
    let digits = or_parts (is_separator c || (c == 35) || is_ascii_alphabetic c) (is_ascii_digit c) quotes.0 in
    let letters = or_parts (is_separator c || (c == 35)) (is_ascii_alphabetic c) digits.0 in
    let first = or_parts (is_separator c) (c == 35) letters.0 in
    rw (first.0, first.1, letters.1, digits.1, quotes.1, signs.1) refl

separator-only : (line c : ℕ) (rest : List ℕ) → (c ≡ 32) ⊎ (c ≡ 9) ⊎ (c ≡ 13) → tokens_from line 0 (c ∷ rest) ≡ tokens_from line 0 rest
separator-only line c rest which =
    let is : is_separator c ≡ true = grind (arith, nat_tests) in
    let other : (c == 10) ≡ false = grind (arith, nat_tests) in
    rw (is, other) refl

pub spelled-only : (line : ℕ) (bytes : List ℕ) (ts : List (ℕ × Token)) → Spelled line bytes ts → ts ≡ tokens_from line 0 bytes
spelled-only _ _ _ (nothing line) = refl
spelled-only _ _ _ (line_feed line rest ts s) = spelled-only (line + 1) rest ts s
spelled-only _ _ _ (separator line c rest ts which s) = spelled-only line rest ts s ∙ sym (separator-only line c rest which)
spelled-only _ _ _ (comment line bytes rest ts h stop s) = spelled-only line rest ts s ∙ sym (comment-only line bytes rest h stop)
spelled-only _ _ _ (word line w rest ts h stop s) = ap (λ xs. (line, Word w) ∷ xs) (spelled-only line rest ts s) ∙ sym (word-only line w rest h stop)
spelled-only _ _ _ (number line d ds rest ts h stop s) =
    let parts = and_parts (is_ascii_digit d) (list_all is_ascii_digit ds) h.0 in
    let is : number_token (d ∷ ds) ≡ Number (value_of (d ∷ ds)) = number-only (d ∷ ds) _ (number_token-reads (d ∷ ds)) h in
    ap (λ xs. (line, Number (value_of (d ∷ ds))) ∷ xs) (spelled-only line rest ts s) ∙ sym (digits-only line d ds rest parts.0 (list_all-wider is_ascii_digit is_word_byte digit-word ds parts.1) stop ∙ ap (λ t. (line, t) ∷ tokens_from line 0 rest) is)
spelled-only _ _ _ (bad_number line d w rest ts digit bytes none stop s) =
    let is : number_token (d ∷ w) ≡ Bad = bad-only (d ∷ w) _ (number_token-reads (d ∷ w)) none in
    ap (λ xs. (line, Bad) ∷ xs) (spelled-only line rest ts s) ∙ sym (digits-only line d w rest digit bytes stop ∙ ap (λ t. (line, t) ∷ tokens_from line 0 rest) is)
spelled-only _ _ _ (string line t rest ts h s) = ap (λ xs. (line, Quoted t) ∷ xs) (spelled-only line rest ts s) ∙ sym (string-only line t rest h)
spelled-only _ _ _ (bad_string line bytes rest ts none h stop s) =
    ap (λ xs. (line, Bad) ∷ xs) (spelled-only line rest ts s) ∙ sym (tokens_from-lexeme line 39 bytes rest Bad (lexeme-bad_string bytes rest none h stop) h)
spelled-only _ _ _ (sign line c rest ts h s) =
    ap (λ xs. (line, Sign c) ∷ xs) (spelled-only line rest ts s) ∙ sym (tokens_from-lexeme line c [] rest (Sign c) (lexeme-sign c rest h) (token_text-stays (Sign c) h))
spelled-only _ _ _ (other line c rest ts h s) =
    let stays : list_all stays_in_line (c ∷ []) ≡ true = rw (other-stays c h) refl in
    ap (λ xs. (line, Bad) ∷ xs) (spelled-only line rest ts s) ∙ sym (tokens_from-lexeme line c [] rest Bad (lexeme-other c rest h) stays)
