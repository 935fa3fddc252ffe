-- Token lists that do not end a statement, in front of others.
use Rattle.std.specs.List.{list_all}
use Rattle.std.proofs.Common.{◌≡◌, ◌<◌, ◌++◌, ◌∷◌, ◌==◌, ◌&&◌, ◌∙◌, ℕ, Bool, List, [], true, false, not, refl, ap, sym, arith, append_assoc}
use Rattle.std.proofs.lemmas.{Bool.{and_parts, Decides.{nat_tests}}, List.{append-nil}}
use Rattle.rm_lang_token.specs.{Statements.{is_the_sign, begins_run}, Spelling.{ends_with}, declared.token.Token.{Token}}

-- no brace
abbrev pub is_no_brace : Token → Bool
is_no_brace t = not (is_the_sign 123 t) && not (is_the_sign 125 t)

-- no brace and no ;
abbrev pub is_inner : Token → Bool
is_inner t = not (is_the_sign 59 t) && is_no_brace t

not-true : (b : Bool) → not b ≡ true → b ≡ false
not-true true h = cc
not-true false h = refl

and-false : (b : Bool) → (b && false) ≡ false
and-false true = refl
and-false false = refl

-- one token that is no brace, and no ; outside braces
passes : (front : List Token) (depth : ℕ) (t : Token) (ts : List Token) → is_no_brace t ≡ true → ((depth == 0) && is_the_sign 59 t) ≡ false → ends_with front depth (t ∷ ts) ≡ ends_with (front ++ t ∷ []) depth ts
passes front depth t ts h other =
    let parts = and_parts (not (is_the_sign 123 t)) (not (is_the_sign 125 t)) h in
    let opens = not-true (is_the_sign 123 t) parts.0 in
    let closes = not-true (is_the_sign 125 t) parts.1 in
    rw (other, opens, closes, and-false (begins_run front && (depth == 1))) refl

-- tokens that are no brace and no ; end nothing
pub ends_with-inner : (front : List Token) (depth : ℕ) (xs ys : List Token) → list_all is_inner xs ≡ true → ends_with front depth (xs ++ ys) ≡ ends_with (front ++ xs) depth ys
ends_with-inner front depth [] ys h = ap (λ ts. ends_with ts depth ys) (sym (append-nil front))
ends_with-inner front depth (t ∷ xs) ys h =
    let parts = and_parts (is_inner t) (list_all is_inner xs) h in
    let both = and_parts (not (is_the_sign 59 t)) (is_no_brace t) parts.0 in
    let other : ((depth == 0) && is_the_sign 59 t) ≡ false = rw (not-true (is_the_sign 59 t) both.0) (and-false (depth == 0)) in
    passes front depth t (xs ++ ys) both.1 other ∙ ends_with-inner (front ++ t ∷ []) depth xs ys parts.1 ∙ ap (λ ts. ends_with ts depth ys) (append_assoc front (t ∷ []) xs)

-- inside braces tokens that are no brace end nothing
pub ends_with-inside : (front : List Token) (depth : ℕ) (xs ys : List Token) → 0 < depth → list_all is_no_brace xs ≡ true → ends_with front depth (xs ++ ys) ≡ ends_with (front ++ xs) depth ys
ends_with-inside front depth [] ys deep h = ap (λ ts. ends_with ts depth ys) (sym (append-nil front))
ends_with-inside front depth (t ∷ xs) ys deep h =
    let parts = and_parts (is_no_brace t) (list_all is_no_brace xs) h in
    let inside : (depth == 0) ≡ false = grind (arith, nat_tests) in
    let other : ((depth == 0) && is_the_sign 59 t) ≡ false = rw inside refl in
    passes front depth t (xs ++ ys) parts.0 other ∙ ends_with-inside (front ++ t ∷ []) depth xs ys deep parts.1 ∙ ap (λ ts. ends_with ts depth ys) (append_assoc front (t ∷ []) xs)
