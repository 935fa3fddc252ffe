-- How the bytes of one token are read, where others follow.
use Rattle.std.specs.List.{list_all, prefix_len}
use Rattle.std.proofs.Common.{◌≡◌, ◌≤◌, ◌+◌, ◌-◌, ◌++◌, ◌==◌, ℕ, Bool, List, [], ◌∷◌, true, false, length, take, drop, Some, refl, ap, arith, ◌∙◌, sym, suc, subst}
use Rattle.std.proofs.lemmas.Bool.{and_from, and_parts, Decides.{nat_tests}}
use Rattle.rm_lang_token.specs.{Lexemes.{NoneInFront}, Tokens.{stays_in_line, line_after, lexeme, tokens_from, feeds, placed}}
use Rattle.rm_lang_token.specs.declared.{token.Token.{Token}, scan.Lexeme.{Lexeme}}

-- what passes a narrower test passes a wider one
pub list_all-wider : (p q : ℕ → Bool) → ((c : ℕ) → p c ≡ true → q c ≡ true) → (cs : List ℕ) → list_all p cs ≡ true → list_all q cs ≡ true
list_all-wider p q f [] h = refl
list_all-wider p q f (c ∷ cs) h =
    let parts = and_parts (p c) (list_all p cs) h in
    and_from (q c) (list_all q cs) (f c parts.0) (list_all-wider p q f cs parts.1)

-- the front that passes a test is all of the bytes before the first one that does not
pub prefix_len-whole : (p : ℕ → Bool) (cs ds : List ℕ) → list_all p cs ≡ true → NoneInFront p ds → prefix_len p (cs ++ ds) ≡ length cs
prefix_len-whole p [] [] h stop = refl
prefix_len-whole p [] (d ∷ ds) h stop = rw stop refl
prefix_len-whole p (c ∷ cs) ds h stop =
    let parts = and_parts (p c) (list_all p cs) h in
    rw (parts.0, prefix_len-whole p cs ds parts.1 stop) (omega arith)

pub line_after-same : (line c : ℕ) → stays_in_line c ≡ true → line_after line c ≡ line
line_after-same line c h = grind (arith, nat_tests)

-- bytes that belong to a lexeme that began before are passed
pub tokens_from-skip : (line : ℕ) (cs ds : List ℕ) → list_all stays_in_line cs ≡ true → tokens_from line (length cs) (cs ++ ds) ≡ tokens_from line 0 ds
tokens_from-skip line [] ds h = refl
tokens_from-skip line (c ∷ cs) ds h =
    let parts = and_parts (stays_in_line c) (list_all stays_in_line cs) h in
    ap (λ l. tokens_from l (length cs) (cs ++ ds)) (line_after-same line c parts.0) ∙ tokens_from-skip line cs ds parts.1

-- a token at the front, and then what the bytes behind it hold
pub tokens_from-lexeme : (line c : ℕ) (cs ds : List ℕ) (t : Token) → lexeme c (cs ++ ds) ≡ record { size = 1 + length cs; token = Some t } → list_all stays_in_line (c ∷ cs) ≡ true → tokens_from line 0 (c ∷ (cs ++ ds)) ≡ (line, t) ∷ tokens_from line 0 ds
tokens_from-lexeme line c cs ds t is h =
    let parts = and_parts (stays_in_line c) (list_all stays_in_line cs) h in
    let size : (1 + length cs) - 1 ≡ length cs = omega arith in
    let rest : Lexeme → Type 0 = λ p. placed line p.token ++ tokens_from (line_after line c) (p.size - 1) (cs ++ ds) ≡ (line, t) ∷ tokens_from line 0 ds in
    subst rest (sym is) (rw (size, line_after-same line c parts.0, tokens_from-skip line cs ds parts.1) refl)

-- the bytes at the front that pass a test, and what stands behind them
pub record IsFront (p : ℕ → Bool) (cs : List ℕ) : Type 0 where
  pub passes : list_all p (take (prefix_len p cs) cs) ≡ true
  pub stops : NoneInFront p (drop (prefix_len p cs) cs)

front-more : (p : ℕ → Bool) (c : ℕ) (cs : List ℕ) → IsFront p cs → (b : Bool) → p c ≡ b → IsFront p (c ∷ cs)
front-more p c cs front true e =
    let one : 1 + prefix_len p cs ≡ suc (prefix_len p cs) = omega arith in
    record { passes = rw (e, one, e) front.passes; stops = rw (e, one) front.stops }
front-more p c cs front false e = record { passes = rw e refl; stops = rw (e, e) refl }

pub front-at : (p : ℕ → Bool) (cs : List ℕ) → IsFront p cs
front-at p [] = record { passes = refl; stops = tt }
front-at p (c ∷ cs) = front-more p c cs (front-at p cs) (p c) refl

-- bytes without a line feed add none
pub feeds-append : (cs ds : List ℕ) → list_all stays_in_line cs ≡ true → feeds (cs ++ ds) ≡ feeds ds
feeds-append [] ds h = refl
feeds-append (c ∷ cs) ds h =
    let parts = and_parts (stays_in_line c) (list_all stays_in_line cs) h in
    let other : (c == 10) ≡ false = grind (arith, nat_tests) in
    rw (other, feeds-append cs ds parts.1) refl

-- there are no more line feeds than bytes
pub feeds_within : (cs : List ℕ) → feeds cs ≤ length cs
feeds_within [] = omega arith
feeds_within (c ∷ cs) = let rest = feeds_within cs in grind (arith, nat_tests)
