-- Tokens that are written are read back.
use Rattle.std.specs.{Char.{is_ascii_alphabetic, is_ascii_digit}, Fmt.{decimal}, List.{list_all, prefix_len}}
use Rattle.std.proofs.Common.{◌≡◌, ◌<◌, ◌+◌, ◌^◌, ◌++◌, ◌∷◌, ◌==◌, ◌∙◌, ℕ, Bool, List, [], true, false, cond, length, map, Some, refl, ap, arith, append_assoc, nat_le, not, length-append}
use Rattle.std.proofs.lemmas.{Bool.{and_from, and_parts, Decides.{nat_tests}}, Fmt.{decimal_nonempty}, List.Folds.{list_all-append}}
use Rattle.std.proofs.Math.Seq.{take-append_seam, get_or-append_seam}
use Rattle.rm_lang_token.specs.Lexemes.{NoneInFront}
use Rattle.rm_lang_token.specs.Tokens.{is_separator, is_word_byte, is_string_byte, is_sign, stays_in_line, number_token, lexeme, tokens_from, tokens, feeds}
use Rattle.rm_lang_token.specs.Statements.{is_the_sign, depth_after, ends_at, cut, nothing_begun, statements}
use Rattle.rm_lang_token.specs.Spelling.{are_string_bytes, is_plain, token_text, tokens_text, ends_with, is_statement}
use Rattle.rm_lang_token.specs.declared.token.Token.{Token, TheVariants.{Word, Number, Quoted, Sign, Bad}}
use Rattle.rm_lang_token.proofs.Reading.{list_all-wider, prefix_len-whole, tokens_from-lexeme, feeds-append}
use Rattle.rm_lang_token.proofs.Digits.{decimal-read, number_token-decimal}

letter-other : (c : ℕ) → is_ascii_alphabetic c ≡ true → (is_separator c ≡ false) × ((c == 35) ≡ false)
letter-other c h = (grind (arith, nat_tests), grind (arith, nat_tests))

digit-other : (c : ℕ) → is_ascii_digit c ≡ true → (is_separator c ≡ false) × ((c == 35) ≡ false) × (is_ascii_alphabetic c ≡ false)
digit-other c h = (grind (arith, nat_tests), grind (arith, nat_tests), grind (arith, nat_tests))

pub lexeme-word : (c : ℕ) (cs ds : List ℕ) → is_ascii_alphabetic c ≡ true → list_all is_word_byte cs ≡ true → NoneInFront is_word_byte ds → lexeme c (cs ++ ds) ≡ record { size = 1 + length cs; token = Some (Word (c ∷ cs)) }
lexeme-word c cs ds letter bytes stop =
    let other = letter-other c letter in
    rw (other.0, other.1, letter, prefix_len-whole is_word_byte cs ds bytes stop, take-append_seam cs ds) refl

pub lexeme-number : (c : ℕ) (cs ds : List ℕ) → is_ascii_digit c ≡ true → list_all is_word_byte cs ≡ true → NoneInFront is_word_byte ds → lexeme c (cs ++ ds) ≡ record { size = 1 + length cs; token = Some (number_token (c ∷ cs)) }
lexeme-number c cs ds digit bytes stop =
    let other = digit-other c digit in
    rw (other.0, other.1, other.2, digit, prefix_len-whole is_word_byte cs ds bytes stop, take-append_seam cs ds) refl

pub lexeme-string : (t ds : List ℕ) → are_string_bytes t ≡ true → lexeme 39 ((t ++ 39 ∷ []) ++ ds) ≡ record { size = 1 + length (t ++ 39 ∷ []); token = Some (Quoted t) }
lexeme-string t ds h =
    let parts = and_parts (nat_le (length t) 64) (list_all is_string_byte t) h in
    let front : prefix_len is_string_byte (t ++ 39 ∷ ds) ≡ length t = prefix_len-whole is_string_byte t (39 ∷ ds) parts.1 refl in
    let size : length t + 2 ≡ 1 + length (t ++ 39 ∷ []) = omega (arith, length-append t (39 ∷ [])) in
    rw (append_assoc t (39 ∷ []) ds, front, parts.0, get_or-append_seam t 39 ds 0, take-append_seam t (39 ∷ ds), size) refl

sign-other : (c : ℕ) → is_sign c ≡ true → (is_separator c ≡ false) × ((c == 35) ≡ false) × (is_ascii_alphabetic c ≡ false) × (is_ascii_digit c ≡ false) × ((c == 39) ≡ false)
sign-other c h = (grind (arith, nat_tests), grind (arith, nat_tests), grind (arith, nat_tests), grind (arith, nat_tests), grind (arith, nat_tests))

pub lexeme-sign : (c : ℕ) (ds : List ℕ) → is_sign c ≡ true → lexeme c ds ≡ record { size = 1 + 0; token = Some (Sign c) }
lexeme-sign c ds h =
    let other = sign-other c h in
    rw (other.0, other.1, other.2, other.3, other.4, h) refl

pub word-stays : (c : ℕ) → is_word_byte c ≡ true → stays_in_line c ≡ true
word-stays c h = grind (arith, nat_tests)

pub string-stays : (c : ℕ) → is_string_byte c ≡ true → stays_in_line c ≡ true
string-stays c h = grind (arith, nat_tests)

pub digit-word : (c : ℕ) → is_ascii_digit c ≡ true → is_word_byte c ≡ true
digit-word c h = grind (arith, nat_tests)

pub letter-word : (c : ℕ) → is_ascii_alphabetic c ≡ true → is_word_byte c ≡ true
letter-word c h = grind (arith, nat_tests)

pub sign-stays : (c : ℕ) → is_sign c ≡ true → stays_in_line c ≡ true
sign-stays c h = grind (arith, nat_tests)

-- a token that can be written has no line feed
pub token_text-stays : (t : Token) → is_plain t ≡ true → list_all stays_in_line (token_text t) ≡ true
token_text-stays (Word []) h = refl
token_text-stays (Word (c ∷ cs)) h =
    let parts = and_parts (is_ascii_alphabetic c) (list_all is_word_byte cs) h in
    and_from _ _ (word-stays c (letter-word c parts.0)) (list_all-wider is_word_byte stays_in_line word-stays cs parts.1)
token_text-stays (Number n) h =
    let small : n < 2 ^ 64 = grind (arith, nat_tests) in
    list_all-wider is_ascii_digit stays_in_line (λ c d. word-stays c (digit-word c d)) (decimal n) (decimal-read n small).1
token_text-stays (Quoted t) h =
    let parts = and_parts (nat_le (length t) 64) (list_all is_string_byte t) h in
    list_all-append stays_in_line t (39 ∷ []) ∙ rw (list_all-wider is_string_byte stays_in_line string-stays t parts.1) refl
token_text-stays (Sign c) h = rw (sign-stays c h) refl
token_text-stays Bad h = refl

digits-read : (line : ℕ) (w ds : List ℕ) → 0 < length w → list_all is_ascii_digit w ≡ true → tokens_from line 0 (w ++ 32 ∷ ds) ≡ (line, number_token w) ∷ tokens_from line 0 ds
digits-read line [] ds some h = absurd (omega arith)
digits-read line (c ∷ cs) ds some h =
    let parts = and_parts (is_ascii_digit c) (list_all is_ascii_digit cs) h in
    tokens_from-lexeme line c cs (32 ∷ ds) (number_token (c ∷ cs))
    (lexeme-number c cs (32 ∷ ds) parts.0 (list_all-wider is_ascii_digit is_word_byte digit-word cs parts.1) refl)
    (list_all-wider is_ascii_digit stays_in_line (λ b d. word-stays b (digit-word b d)) (c ∷ cs) h)

-- the bytes of a token and a space are read as that token
pub token-read : (line : ℕ) (t : Token) (ds : List ℕ) → is_plain t ≡ true → tokens_from line 0 (token_text t ++ 32 ∷ ds) ≡ (line, t) ∷ tokens_from line 0 ds
token-read line (Word []) ds h = cc
token-read line (Word (c ∷ cs)) ds h =
    let parts = and_parts (is_ascii_alphabetic c) (list_all is_word_byte cs) h in
    tokens_from-lexeme line c cs (32 ∷ ds) (Word (c ∷ cs)) (lexeme-word c cs (32 ∷ ds) parts.0 parts.1 refl) (token_text-stays (Word (c ∷ cs)) h)
token-read line (Number n) ds h =
    let small : n < 2 ^ 64 = grind (arith, nat_tests) in
    digits-read line (decimal n) ds (decimal_nonempty n small) (decimal-read n small).1 ∙ ap (λ t. (line, t) ∷ tokens_from line 0 ds) (number_token-decimal n small)
token-read line (Quoted t) ds h =
    tokens_from-lexeme line 39 (t ++ 39 ∷ []) (32 ∷ ds) (Quoted t) (lexeme-string t (32 ∷ ds) h) (token_text-stays (Quoted t) h)
token-read line (Sign c) ds h =
    tokens_from-lexeme line c [] (32 ∷ ds) (Sign c) (lexeme-sign c (32 ∷ ds) h) (token_text-stays (Sign c) h)
token-read line Bad ds h = cc

-- tokens that are written are read back, each on the first line
pub tokens-tokens_text : (ts : List Token) → list_all is_plain ts ≡ true → tokens (tokens_text ts) ≡ map (λ t. (1, t)) ts
tokens-tokens_text [] h = refl
tokens-tokens_text (t ∷ ts) h =
    let parts = and_parts (is_plain t) (list_all is_plain ts) h in
    token-read 1 t (tokens_text ts) parts.0 ∙ ap (λ ps. (1, t) ∷ ps) (tokens-tokens_text ts parts.1)

pub feeds-tokens_text : (ts : List Token) → list_all is_plain ts ≡ true → feeds (tokens_text ts) ≡ 0
feeds-tokens_text [] h = refl
feeds-tokens_text (t ∷ ts) h =
    let parts = and_parts (is_plain t) (list_all is_plain ts) h in
    feeds-append (token_text t) (32 ∷ tokens_text ts) (token_text-stays t parts.0) ∙ feeds-tokens_text ts parts.1

no-tokens : (ts : List Token) → (length ts == 0) ≡ true → ts ≡ []
no-tokens [] h = refl
no-tokens (t ∷ ts) h = absurd (grind (arith, nat_tests))

-- what has begun with the tokens f and fs, so many of whose braces are open, is one statement with the tokens that end it
cut-ends_with : (f : Token) (fs : List Token) (depth : ℕ) (ts : List Token) → ends_with (f ∷ fs) depth ts ≡ true → cut (record { front = f ∷ fs; line = 1; depth = depth }) (map (λ t. (1, t)) ts) ≡ (1, (f ∷ fs) ++ ts) ∷ []
cut-ends_with f fs depth [] h = cc
cut-ends_with f fs depth (t ∷ ts) h =
    let more : List Token = f ∷ (fs ++ t ∷ []) in
    let P : Bool → Type 0 = λ b.
    cond b (length ts == 0) (ends_with more (depth_after depth t) ts) ≡ true →
    cond b ((1, more) ∷ []) [] ++ cut (cond b (record { front = []; line = 1; depth = 0 }) (record { front = more; line = 1; depth = depth_after depth t })) (map (λ t. (1, t)) ts) ≡ (1, f ∷ (fs ++ t ∷ ts)) ∷ [] in
    let by_cases : (b : Bool) → P b = λ b. elim b as P [
      | true ↦ λ e. rw (no-tokens ts e) refl
      | false ↦ λ e. cut-ends_with f (fs ++ t ∷ []) (depth_after depth t) ts e ∙ ap (λ xs. (1, f ∷ xs) ∷ []) (append_assoc fs (t ∷ []) ts)
    ] in
    let begun : (length (f ∷ fs) == 0) ≡ false = grind (arith, nat_tests) in
    rw begun (by_cases (ends_at (f ∷ fs) depth t) h)

-- tokens that are one statement are read back as this statement
pub statements-tokens_text : (ts : List Token) → list_all is_plain ts ≡ true → is_statement ts ≡ true → statements (tokens_text ts) ≡ (1, ts) ∷ []
statements-tokens_text [] h whole = cc
statements-tokens_text (t ∷ ts) h whole =
    let parts = and_parts (not (is_the_sign 59 t)) (ends_with (t ∷ []) (depth_after 0 t) ts) whole in
    let other : is_the_sign 59 t ≡ false = grind arith in
    ap (cut nothing_begun) (tokens-tokens_text (t ∷ ts) h) ∙ rw other (cut-ends_with t [] (depth_after 0 t) ts parts.1)
