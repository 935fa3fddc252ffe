-- The tokens of a script are those of its lexemes.
use Rattle.std.specs.{Char.{is_ascii_alphabetic, is_ascii_digit}, List.{list_all, prefix_len}}
use Rattle.std.proofs.Common.{◌≡◌, ◌<◌, ◌+◌, ◌-◌, ◌++◌, ◌∷◌, ◌==◌, ◌&&◌, ◌∙◌, ◌⊎◌, inl, inr, ℕ, zero, suc, Bool, List, [], true, false, length, take, drop, Option, Some, None, refl, ap, sym, arith, subst, get_or, nat_le, drop-cons}
use Rattle.std.proofs.lemmas.{Bool.{and_from, and_parts, cases_lt, eqb-true, Decides.{nat_tests}}, List.{take-append-drop}}
use Rattle.std.proofs.{lemmas.List.Folds.{list_all-append, length-prefix_len}, Math.ListN.{get_or-eq_default}}
use Rattle.std.proofs.Math.Seq.{get_or-append_seam, take-suc}
use Rattle.rm_lang_token.specs.Tokens.{is_separator, is_word_byte, is_string_byte, is_sign, stays_in_line, number_token, lexeme, line_after, placed, tokens_from, tokens}
use Rattle.rm_lang_token.specs.Spelling.{is_name, are_string_bytes}
use Rattle.rm_lang_token.specs.Lexemes.{BeginsWithString, begins_lexeme, Spelled, nothing, line_feed, separator, comment, word, number, bad_number, string, bad_string, sign, other}
use Rattle.rm_lang_token.specs.declared.{token.Token.{Token, TheVariants.{Word, Quoted, Sign, Bad}}, scan.Lexeme.{Lexeme}}
use Rattle.rm_lang_token.proofs.Reading.{list_all-wider, prefix_len-whole, line_after-same, IsFront, front-at}
use Rattle.rm_lang_token.proofs.{Digits.{ReadsNumber, is_number, is_bad, number_token-reads}, ReadBack.{word-stays, string-stays}}

-- a lexeme at the front, and then what the bytes behind it spell
from_lexeme : (line c : ℕ) (cs : List ℕ) (size : ℕ) (o : Option Token) → lexeme c cs ≡ record { size = 1 + size; token = o } →
    Spelled line (c ∷ cs) (placed line o ++ tokens_from (line_after line c) size cs) → Spelled line (c ∷ cs) (tokens_from line 0 (c ∷ cs))
from_lexeme line c cs size o is h =
    let less : (1 + size) - 1 ≡ size = omega arith in
    let Goal : Lexeme → Type 0 = λ p. Spelled line (c ∷ cs) (placed line p.token ++ tokens_from (line_after line c) (p.size - 1) cs) in
    subst Goal (sym is) (rw less h)

-- the bytes behind a lexeme that holds no line feed are spelled
abbrev Behind : List ℕ → Type 0
Behind cs = (size line : ℕ) → list_all stays_in_line (take size cs) ≡ true → Spelled line (drop size cs) (tokens_from line size cs)

-- what begins with c is spelled
abbrev Front : ℕ → ℕ → List ℕ → Type 0
Front line c cs = Spelled line (c ∷ cs) (tokens_from line 0 (c ∷ cs))

at_separator : (c : ℕ) (cs : List ℕ) → Behind cs → (line : ℕ) → is_separator c ≡ true → Front line c cs
at_separator c cs behind line e = from_lexeme line c cs 0 None (rw e refl) (by_cases (c == 10) refl)
  where
    by_cases : (b : Bool) → (c == 10) ≡ b → Spelled line (c ∷ cs) (tokens_from (line_after line c) 0 cs)
    by_cases true feed =
        subst (λ (x : ℕ). Spelled line (x ∷ cs) (tokens_from (line_after line x) 0 cs)) (sym (eqb-true c 10 feed)) (line_feed line cs _ (behind 0 (line + 1) refl))
    by_cases false none =
        let which : (c ≡ 32) ⊎ (c ≡ 9) ⊎ (c ≡ 13) = grind (arith, nat_tests) in
        rw none (separator line c cs _ which (behind 0 line refl))

at_comment : (cs : List ℕ) → Behind cs → (line : ℕ) → Front line 35 cs
at_comment cs behind line =
    let size : ℕ = prefix_len stays_in_line cs in
    let front = front-at stays_in_line cs in
    from_lexeme line 35 cs size None refl
    (subst (λ (xs : List ℕ). Spelled line (35 ∷ xs) (tokens_from line size cs)) (take-append-drop size cs)
    (comment line (take size cs) (drop size cs) _ front.passes front.stops (behind size line front.passes)))

at_letter : (c : ℕ) (cs : List ℕ) → Behind cs → (line : ℕ) → is_separator c ≡ false → (c == 35) ≡ false → is_ascii_alphabetic c ≡ true → Front line c cs
at_letter c cs behind line e1 e2 letter =
    let size : ℕ = prefix_len is_word_byte cs in
    let front = front-at is_word_byte cs in
    let stays = list_all-wider is_word_byte stays_in_line word-stays (take size cs) front.passes in
    let name : is_name (c ∷ take size cs) ≡ true = and_from _ _ letter front.passes in
    let line_stays : stays_in_line c ≡ true = grind (arith, nat_tests) in
    from_lexeme line c cs size (Some (Word (c ∷ take size cs))) (rw (e1, e2, letter) refl)
    (rw (line_after-same line c line_stays)
    (subst (λ (xs : List ℕ). Spelled line (c ∷ xs) ((line, Word (c ∷ take size cs)) ∷ tokens_from line size cs)) (take-append-drop size cs)
    (word line (c ∷ take size cs) (drop size cs) _ name front.stops (behind size line stays))))

at_digit : (c : ℕ) (cs : List ℕ) → Behind cs → (line : ℕ) → is_separator c ≡ false → (c == 35) ≡ false → is_ascii_alphabetic c ≡ false → is_ascii_digit c ≡ true → Front line c cs
at_digit c cs behind line e1 e2 e3 digit =
    from_lexeme line c cs size (Some (number_token (c ∷ w))) (rw (e1, e2, e3, digit) refl)
    (rw (line_after-same line c line_stays)
    (subst (λ (xs : List ℕ). Spelled line (c ∷ xs) ((line, number_token (c ∷ w)) ∷ tokens_from line size cs)) (take-append-drop size cs)
    (by_cases (number_token (c ∷ w)) (number_token-reads (c ∷ w)))))
  where
    size : ℕ
    size = prefix_len is_word_byte cs

    w : List ℕ
    w = take size cs

    front : IsFront is_word_byte cs
    front = front-at is_word_byte cs

    rest : Spelled line (drop size cs) (tokens_from line size cs)
    rest = behind size line (list_all-wider is_word_byte stays_in_line word-stays w front.passes)

    line_stays : stays_in_line c ≡ true
    line_stays = grind (arith, nat_tests)

    by_cases : (t : Token) → ReadsNumber (c ∷ w) t → Spelled line (c ∷ (w ++ drop size cs)) ((line, t) ∷ tokens_from line size cs)
    by_cases _ (is_number h) = number line c w (drop size cs) _ h front.stops rest
    by_cases _ (is_bad h) = bad_number line c w (drop size cs) _ digit front.passes h front.stops rest

-- what string bytes up to a quote tell
string_bytes-front : (cs : List ℕ) → BeginsWithString cs → (nat_le (prefix_len is_string_byte cs) 64 && (get_or cs (prefix_len is_string_byte cs) 0 == 39)) ≡ true
string_bytes-front cs (t, rest, are, is) =
    let parts = and_parts (nat_le (length t) 64) (list_all is_string_byte t) are in
    let size : prefix_len is_string_byte cs ≡ length t = ap (prefix_len is_string_byte) is ∙ prefix_len-whole is_string_byte t (39 ∷ rest) parts.1 refl in
    let quote : get_or cs (length t) 0 ≡ 39 = ap (λ xs. get_or xs (length t) 0) is ∙ get_or-append_seam t 39 rest 0 in
    rw (size, parts.0, quote) refl

within : (cs : List ℕ) (size : ℕ) → get_or cs size 0 ≡ 39 → size < length cs
within cs size quote = elim (cases_lt size (length cs)) [
  | inl lt ↦ lt
  | inr ge ↦ let default : get_or cs size 0 ≡ 0 = get_or-eq_default cs 0 ge in absurd (omega arith)
]

-- a quote behind at most 64 string bytes ends a string
pub begins_string : (cs : List ℕ) → (nat_le (prefix_len is_string_byte cs) 64 && (get_or cs (prefix_len is_string_byte cs) 0 == 39)) ≡ true → BeginsWithString cs
begins_string cs e =
    let size : ℕ = prefix_len is_string_byte cs in
    let parts = and_parts (nat_le size 64) (get_or cs size 0 == 39) e in
    let quote : get_or cs size 0 ≡ 39 = eqb-true (get_or cs size 0) 39 parts.1 in
    let rest : drop size cs ≡ 39 ∷ drop (suc size) cs = drop-cons cs size 0 (within cs size quote) ∙ ap (λ x. x ∷ drop (suc size) cs) quote in
    let are : are_string_bytes (take size cs) ≡ true = and_from _ _ (rw (length-prefix_len is_string_byte cs) parts.0) (front-at is_string_byte cs).passes in
    (take size cs, drop (suc size) cs, are, sym (take-append-drop size cs) ∙ ap (λ xs. take size cs ++ xs) rest)

at_quote : (cs : List ℕ) → Behind cs → (line : ℕ) → (b : Bool) → (nat_le (prefix_len is_string_byte cs) 64 && (get_or cs (prefix_len is_string_byte cs) 0 == 39)) ≡ b → Front line 39 cs
at_quote cs behind line true e =
    let size : ℕ = prefix_len is_string_byte cs in
    let t : List ℕ = take size cs in
    let front = front-at is_string_byte cs in
    let parts = and_parts (nat_le size 64) (get_or cs size 0 == 39) e in
    let quote : get_or cs size 0 ≡ 39 = eqb-true (get_or cs size 0) 39 parts.1 in
    let inside : size < length cs = within cs size quote in
    let behind_t : drop size cs ≡ 39 ∷ drop (suc size) cs = drop-cons cs size 0 inside ∙ ap (λ x. x ∷ drop (suc size) cs) quote in
    let whole : t ++ 39 ∷ drop (suc size) cs ≡ cs = ap (λ xs. t ++ xs) (sym behind_t) ∙ take-append-drop size cs in
    let long : take (suc size) cs ≡ t ++ 39 ∷ [] = take-suc cs size 0 inside ∙ ap (λ x. t ++ x ∷ []) quote in
    let stays : list_all stays_in_line (take (suc size) cs) ≡ true =
    ap (list_all stays_in_line) long ∙ list_all-append stays_in_line t (39 ∷ []) ∙ rw (list_all-wider is_string_byte stays_in_line string-stays t front.passes) refl in
    let are : are_string_bytes t ≡ true = and_from (nat_le (length t) 64) (list_all is_string_byte t) (rw (length-prefix_len is_string_byte cs) parts.0) front.passes in
    let sizes : size + 2 ≡ 1 + suc size = omega arith in
    from_lexeme line 39 cs (suc size) (Some (Quoted t)) (rw (e, sizes) refl)
    (subst (λ (xs : List ℕ). Spelled line (39 ∷ xs) ((line, Quoted t) ∷ tokens_from line (suc size) cs)) whole
    (string line t (drop (suc size) cs) _ are (behind (suc size) line stays)))
at_quote cs behind line false e =
    let size : ℕ = prefix_len stays_in_line cs in
    let front = front-at stays_in_line cs in
    let none : ¬ BeginsWithString cs = λ r. let yes = string_bytes-front cs r in cc in
    let same : take size cs ++ drop size cs ≡ cs = take-append-drop size cs in
    from_lexeme line 39 cs size (Some Bad) (rw e refl)
    (subst (λ (xs : List ℕ). Spelled line (39 ∷ xs) ((line, Bad) ∷ tokens_from line size cs)) same
    (bad_string line (take size cs) (drop size cs) _ (subst (λ (xs : List ℕ). ¬ BeginsWithString xs) (sym same) none) front.passes front.stops (behind size line front.passes)))

at_sign : (c : ℕ) (cs : List ℕ) → Behind cs → (line : ℕ) → is_separator c ≡ false → (c == 35) ≡ false → is_ascii_alphabetic c ≡ false → is_ascii_digit c ≡ false → (c == 39) ≡ false → (b : Bool) → is_sign c ≡ b → Front line c cs
at_sign c cs behind line e1 e2 e3 e4 e5 true e6 =
    let stays : stays_in_line c ≡ true = grind (arith, nat_tests) in
    from_lexeme line c cs 0 (Some (Sign c)) (rw (e1, e2, e3, e4, e5, e6) refl)
    (rw (line_after-same line c stays) (sign line c cs _ e6 (behind 0 line refl)))
at_sign c cs behind line e1 e2 e3 e4 e5 false e6 =
    let stays : stays_in_line c ≡ true = grind (arith, nat_tests) in
    let begins_none : begins_lexeme c ≡ false = rw (e1, e2, e3, e4, e5, e6) refl in
    from_lexeme line c cs 0 (Some Bad) (rw (e1, e2, e3, e4, e5, e6) refl)
    (rw (line_after-same line c stays) (other line c cs _ begins_none (behind 0 line refl)))

at_front : (c : ℕ) (cs : List ℕ) → Behind cs → (line : ℕ) → Front line c cs
at_front c cs behind line = by_separator (is_separator c) refl
  where
    by_quote : is_separator c ≡ false → (c == 35) ≡ false → is_ascii_alphabetic c ≡ false → is_ascii_digit c ≡ false → (b : Bool) → (c == 39) ≡ b → Front line c cs
    by_quote e1 e2 e3 e4 true e = subst (λ (x : ℕ). Front line x cs) (sym (eqb-true c 39 e)) (at_quote cs behind line _ refl)
    by_quote e1 e2 e3 e4 false e = at_sign c cs behind line e1 e2 e3 e4 e (is_sign c) refl

    by_digit : is_separator c ≡ false → (c == 35) ≡ false → is_ascii_alphabetic c ≡ false → (b : Bool) → is_ascii_digit c ≡ b → Front line c cs
    by_digit e1 e2 e3 true e = at_digit c cs behind line e1 e2 e3 e
    by_digit e1 e2 e3 false e = by_quote e1 e2 e3 e (c == 39) refl

    by_letter : is_separator c ≡ false → (c == 35) ≡ false → (b : Bool) → is_ascii_alphabetic c ≡ b → Front line c cs
    by_letter e1 e2 true e = at_letter c cs behind line e1 e2 e
    by_letter e1 e2 false e = by_digit e1 e2 e (is_ascii_digit c) refl

    by_comment : is_separator c ≡ false → (b : Bool) → (c == 35) ≡ b → Front line c cs
    by_comment e1 true e = subst (λ (x : ℕ). Front line x cs) (sym (eqb-true c 35 e)) (at_comment cs behind line)
    by_comment e1 false e = by_letter e1 e (is_ascii_alphabetic c) refl

    by_separator : (b : Bool) → is_separator c ≡ b → Front line c cs
    by_separator true e = at_separator c cs behind line e
    by_separator false e = by_comment e (c == 35) refl

spelled : (cs : List ℕ) → Behind cs
spelled [] zero line h = nothing line
spelled [] (suc size) line h = nothing line
spelled (c ∷ cs) zero line h = at_front c cs (spelled cs) line
spelled (c ∷ cs) (suc size) line h =
    let parts = and_parts (stays_in_line c) (list_all stays_in_line (take size cs)) h in
    rw (line_after-same line c parts.0) (spelled cs size line parts.1)

pub tokens-Spelled : (script : List ℕ) → Spelled 1 script (tokens script)
tokens-Spelled script = spelled script 0 1 refl
