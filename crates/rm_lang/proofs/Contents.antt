-- A VALUE and the content that it has.
use Rattle.std.specs.{Prelude.{nat_le}, List.{list_all}}
use Rattle.std.proofs.Common.{◌≡◌, refl, ap, sym, subst, ◌∙◌, cond, arith, ◌==◌, ◌≤◌, ◌+◌, ◌-◌, ◌++◌, ℕ, zero, suc, List, [], ◌∷◌, Some, None, Bool, true, false, length, replicate}
use Rattle.std.proofs.lemmas.{Bool.{and_parts, and_from, cond_both, le-leb, eqb-true, Decides.{nat_tests}}, Option.{same_Some}}
use Rattle.rm_base.specs.Content.{onto, padded, trimmed}
use Rattle.rm_lang_token.specs.{Tokens.{is_string_byte}, Spelling.{are_string_bytes}}
use Rattle.rm_lang_grammar.{specs.{Grammar.{kept_of}, Spelling.{IsFaithful, is_shown}}, proofs.Spelled.{same_keeps, keeps_same}}
use Rattle.rm_lang_statement.specs.Texts.{content}

trimmed-zeros : (n : ℕ) → trimmed (replicate n 0) ≡ []
trimmed-zeros zero = refl
trimmed-zeros (suc n) = ap (onto 0) (trimmed-zeros n)

not_zero : (x : ℕ) → is_string_byte x ≡ true → (x == 0) ≡ false
not_zero x h = grind (arith, nat_tests)

onto-string : (x : ℕ) (xs : List ℕ) → is_string_byte x ≡ true → onto x xs ≡ x ∷ xs
onto-string x [] h = rw (not_zero x h) refl
onto-string x (y ∷ ys) h = refl

-- zero bytes behind a string are cut
pub trimmed-string : (w : List ℕ) (n : ℕ) → list_all is_string_byte w ≡ true → trimmed (w ++ replicate n 0) ≡ w
trimmed-string [] n h = trimmed-zeros n
trimmed-string (x ∷ xs) n h =
    let b = and_parts (is_string_byte x) (list_all is_string_byte xs) h in
    ap (onto x) (trimmed-string xs n b.1) ∙ onto-string x xs b.0

kept_parts : (b : Bool) (w v : List ℕ) → cond b (content.read w) None ≡ Some v → (b ≡ true) × (v ≡ (padded w).0)
kept_parts true w v e = (refl, sym (same_Some _ _ e))
kept_parts false w v e = absurd (cc)

-- what is shown of a content is read as the content
pub content-faithful : IsFaithful content
content-faithful w v e =
    let k = kept_parts (are_string_bytes w) w v e in
    let b = and_parts (nat_le (length w) 64) (list_all is_string_byte w) k.0 in
    let same : trimmed v ≡ w = ap trimmed k.1 ∙ trimmed-string w (64 - length w) b.1 in
    rw same e

length-onto : (x : ℕ) (xs : List ℕ) → length (onto x xs) ≤ length xs + 1
length-onto x [] = cond_both (x == 0) [] (x ∷ []) (λ (ys : List ℕ). length ys ≤ 1) (λ h. omega arith) (λ h. omega arith)
length-onto x (y ∷ ys) = omega arith

-- no byte is added
pub length-trimmed : (xs : List ℕ) → length (trimmed xs) ≤ length xs
length-trimmed [] = omega arith
length-trimmed (x ∷ xs) =
    let one = length-onto x (trimmed xs) in
    let rest = length-trimmed xs in grind arith

-- the bytes, and zero bytes up to this length
abbrev filled : List ℕ → ℕ → List ℕ
filled xs n = xs ++ replicate (n - length xs) 0

filled-cons : (x : ℕ) (xs : List ℕ) (n : ℕ) → filled (x ∷ xs) (suc n) ≡ x ∷ filled xs n
filled-cons x xs n =
    let k : suc n - length (x ∷ xs) ≡ n - length xs = grind arith in
    ap (λ m. (x ∷ xs) ++ replicate m 0) k

filled-nil : (n : ℕ) → filled [] (suc n) ≡ 0 ∷ filled [] n
filled-nil n =
    let k : suc n - length {A = ℕ} [] ≡ suc (n - length {A = ℕ} []) = grind arith in
    ap (λ m. replicate m 0) k

filled-onto : (x : ℕ) (xs : List ℕ) (n : ℕ) → filled (onto x xs) (suc n) ≡ x ∷ filled xs n
filled-onto x [] n = cond_both (x == 0) [] (x ∷ []) (λ (ys : List ℕ). filled ys (suc n) ≡ x ∷ filled [] n)
    (λ h. filled-nil n ∙ ap (λ y. y ∷ filled [] n) (sym (eqb-true x 0 h))) (λ h. filled-cons x [] n)
filled-onto x (y ∷ ys) n = filled-cons x (y ∷ ys) n

-- the zero bytes that were cut, put back
filled-trimmed : (xs : List ℕ) → filled (trimmed xs) (length xs) ≡ xs
filled-trimmed [] = refl
filled-trimmed (x ∷ xs) = filled-onto x (trimmed xs) (length xs) ∙ ap (λ ys. x ∷ ys) (filled-trimmed xs)

pub padded-trimmed : (xs : List ℕ) → length xs ≡ 64 → (padded (trimmed xs)).0 ≡ xs
padded-trimmed xs h = subst (λ n. filled (trimmed xs) n ≡ xs) h (filled-trimmed xs)

-- a content of 64 bytes that is shown is a string
pub string_content : (xs : List ℕ) → length xs ≡ 64 → list_all is_string_byte (trimmed xs) ≡ true → are_string_bytes (trimmed xs) ≡ true
string_content xs n h =
    and_from (nat_le (length (trimmed xs)) 64) (list_all is_string_byte (trimmed xs)) (le-leb (length (trimmed xs)) 64 (subst (λ m. length (trimmed xs) ≤ m) n (length-trimmed xs))) h

-- a content of 64 bytes that is a string is shown
pub is_shown-content : (xs : List ℕ) → length xs ≡ 64 → list_all is_string_byte (trimmed xs) ≡ true → is_shown content xs ≡ true
is_shown-content xs n h =
    same_keeps (kept_of content.read (trimmed xs)) xs (rw (string_content xs n h) (ap (λ (ys : List ℕ). Some ys) (padded-trimmed xs n)))

-- what is shown can stand between quotes
pub shown_string : (xs : List ℕ) → is_shown content xs ≡ true → are_string_bytes (trimmed xs) ≡ true
shown_string xs h = (kept_parts (are_string_bytes (trimmed xs)) (trimmed xs) xs (keeps_same (kept_of content.read (trimmed xs)) xs h)).0

-- a content of 64 bytes is shown where it is a string
pub shown-value : (xs : List ℕ) → length xs ≡ 64 → are_string_bytes (trimmed xs) ≡ is_shown content xs
shown-value xs n = both (are_string_bytes (trimmed xs)) (is_shown content xs)
    (λ h. is_shown-content xs n (and_parts (nat_le (length (trimmed xs)) 64) (list_all is_string_byte (trimmed xs)) h).1) (λ h. shown_string xs h)
  where
    both : (a b : Bool) → (a ≡ true → b ≡ true) → (b ≡ true → a ≡ true) → a ≡ b
    both true b f g = sym (f refl)
    both false true f g = g refl
    both false false f g = refl
