-- The decimal digits of a number are read as this number.
use Rattle.std.specs.{Char.{is_ascii_digit}, List.{fold, list_all}, Option.{MatchOption}, Fmt.{decimal}}
use Rattle.std.proofs.Common.{◌≡◌, ◌≤◌, ◌<◌, ◌+◌, ◌-◌, ◌*◌, ◌/◌, ◌%◌, ◌^◌, ◌++◌, ℕ, Bool, List, [], ◌∷◌, true, false, cond, length, Option, Some, None, refl, ap, arith, nat_lt, ◌&&◌, ◌∙◌, sym, subst, inl, inr}
use Rattle.std.proofs.lemmas.{Bool.{and_from, and_parts, cases_lt, Decides.{nat_tests}}, Fmt.{decimal_by_steps, length-decimal-le}}
use Rattle.std.proofs.lemmas.List.Folds.{list_all-append}
use Rattle.rm_lang_token.specs.{Lexemes.{IsNumber, value_of}, Tokens.{number_after, number_token, number_or_bad}}
use Rattle.rm_lang_token.specs.declared.token.Token.{Token, TheVariants.{Number, Bad}}

-- one digit more behind digits that are read as m
number_after-push : (ds : List ℕ) (v m c : ℕ) → number_after v ds ≡ Some m → is_ascii_digit c ≡ true → m * 10 + (c - 48) < 2 ^ 64 → number_after v (ds ++ c ∷ []) ≡ Some (m * 10 + (c - 48))
number_after-push [] v m c same digit fits =
    let here : v ≡ m = cc in
    let small : nat_lt (v * 10 + (c - 48)) (2 ^ 64) ≡ true = rw here (grind (arith, nat_tests)) in
    rw (and_from _ _ digit small, here) refl
number_after-push (d ∷ ds) v m c same digit fits =
    let test : Bool = is_ascii_digit d && nat_lt (v * 10 + (d - 48)) (2 ^ 64) in
    let next : ℕ = v * 10 + (d - 48) in
    let P : Bool → Type 0 = λ b. cond b (number_after next ds) None ≡ Some m → cond b (number_after next (ds ++ c ∷ [])) None ≡ Some (m * 10 + (c - 48)) in
    let by_cases : (b : Bool) → P b = λ b. elim b as P [ true ↦ λ e. number_after-push ds next m c e digit fits | false ↦ λ e. cc ] in
    by_cases test same

-- a digit list that is read as n
abbrev pub IsRead : ℕ → List ℕ → Type 0
IsRead n ds = (n < 2 ^ 64 → number_after 0 ds ≡ Some n) × (list_all is_ascii_digit ds ≡ true)

one : (n : ℕ) → n < 10 → IsRead n ((48 + n) ∷ [])
one n h =
    let digit : is_ascii_digit (48 + n) ≡ true = grind (arith, nat_tests) in
    let value : 0 * 10 + (48 + n - 48) ≡ n = omega arith in
    let small : n < 2 ^ 64 → nat_lt n (2 ^ 64) ≡ true = λ (b : n < 2 ^ 64). grind (arith, nat_tests) in
    (λ b. rw (digit, value, small b) refl, rw digit refl)

more : (n : ℕ) (ds : List ℕ) → 10 ≤ n → IsRead (n / 10) ds → IsRead n (ds ++ ((48 + n % 10) ∷ []))
more n ds h r =
    let digit : is_ascii_digit (48 + n % 10) ≡ true = grind (arith, nat_tests) in
    let value : (n / 10) * 10 + (48 + n % 10 - 48) ≡ n = omega arith in
    let read : n < 2 ^ 64 → number_after 0 (ds ++ (48 + n % 10) ∷ []) ≡ Some n =
    λ (b : n < 2 ^ 64). number_after-push ds 0 (n / 10) (48 + n % 10) (r.0 (omega arith)) digit (omega arith) ∙ ap Some value in
    (read, list_all-append is_ascii_digit ds ((48 + n % 10) ∷ []) ∙ rw (r.1, digit) refl)

pub decimal-read : (n : ℕ) → n < 2 ^ 64 → IsRead n (decimal n)
decimal-read n h = decimal_by_steps IsRead one more n h

pub number_token-decimal : (n : ℕ) → n < 2 ^ 64 → number_token (decimal n) ≡ Number n
number_token-decimal n h =
    let short : length (decimal n) ≤ 20 = length-decimal-le 20 n (omega arith) (omega arith) h in
    let test : nat_lt 20 (length (decimal n)) ≡ false = grind (arith, nat_tests) in
    rw (test, (decimal-read n h).0 h) refl

-- what digits behind a value may be read as: their number where it is below 2^64, and nothing where one is no digit or the number is greater
abbrev Told : List ℕ → ℕ → Option ℕ → Type 0
Told w v r = MatchOption r
    (¬ ((list_all is_ascii_digit w ≡ true) × (fold (λ v c. v * 10 + (c - 48)) v w < 2 ^ 64)))
    (λ n. (list_all is_ascii_digit w ≡ true) × (fold (λ v c. v * 10 + (c - 48)) v w ≡ n) × (n < 2 ^ 64))

fold-ge : (w : List ℕ) (v : ℕ) → v ≤ fold (λ v c. v * 10 + (c - 48)) v w
fold-ge [] v = omega arith
fold-ge (c ∷ cs) v = let more = fold-ge cs (v * 10 + (c - 48)) in omega (arith, more)

tells-more : (c : ℕ) (cs : List ℕ) (v : ℕ) → (b : Bool) → (is_ascii_digit c && nat_lt (v * 10 + (c - 48)) (2 ^ 64)) ≡ b → (v * 10 + (c - 48) < 2 ^ 64 → Told cs (v * 10 + (c - 48)) (number_after (v * 10 + (c - 48)) cs)) → Told (c ∷ cs) v (number_after v (c ∷ cs))
tells-more c cs v true e more =
    let parts = and_parts (is_ascii_digit c) (nat_lt (v * 10 + (c - 48)) (2 ^ 64)) e in
    let small : v * 10 + (c - 48) < 2 ^ 64 = grind (arith, nat_tests) in
    rw (e, parts.0) (more small)
tells-more c cs v false e more = rw e (λ r.
    let parts = and_parts (is_ascii_digit c) (list_all is_ascii_digit cs) r.0 in
    let below : fold (λ v c. v * 10 + (c - 48)) (v * 10 + (c - 48)) cs < 2 ^ 64 = r.1 in
    let small : v * 10 + (c - 48) < 2 ^ 64 = omega (arith, fold-ge cs (v * 10 + (c - 48))) in
    let test : nat_lt (v * 10 + (c - 48)) (2 ^ 64) ≡ true = grind (arith, nat_tests) in
    let yes = and_from (is_ascii_digit c) (nat_lt (v * 10 + (c - 48)) (2 ^ 64)) parts.0 test in
    cc)

number_after-tells : (w : List ℕ) (v : ℕ) → v < 2 ^ 64 → Told w v (number_after v w)
number_after-tells [] v h = (refl, refl, h)
number_after-tells (c ∷ cs) v h = tells-more c cs v _ refl (number_after-tells cs (v * 10 + (c - 48)))

-- word bytes behind a digit are a number or bad
pub data ReadsNumber (w : List ℕ) : Token → Type 0 where
  is_number : IsNumber w → ReadsNumber w (Number (value_of w))
  is_bad : ¬ IsNumber w → ReadsNumber w Bad

reads-short : (w : List ℕ) → length w ≤ 20 → (r : Option ℕ) → Told w 0 r → ReadsNumber w (number_or_bad r)
reads-short w short None told = is_bad (λ r. told (r.0, r.2))
reads-short w short (Some n) told =
    let below : value_of w < 2 ^ 64 = subst (λ (m : ℕ). m < 2 ^ 64) (sym told.1) told.2 in
    subst (λ (m : ℕ). ReadsNumber w (Number m)) told.1 (is_number (told.0, short, below))

pub number_token-reads : (w : List ℕ) → ReadsNumber w (number_token w)
number_token-reads w = elim (cases_lt 20 (length w)) [
  | inl long ↦
      let test : nat_lt 20 (length w) ≡ true = grind (arith, nat_tests) in
      rw test (is_bad (λ r. let short : length w ≤ 20 = r.1 in omega arith))
  | inr short ↦
      let test : nat_lt 20 (length w) ≡ false = grind (arith, nat_tests) in
      rw test (reads-short w short (number_after 0 w) (number_after-tells w 0 (omega arith)))
]
