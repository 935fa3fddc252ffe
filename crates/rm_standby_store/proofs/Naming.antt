-- The name of a standby tells its number.
use Rattle.std.specs.{Fmt.{decimal}, Result.{result_ok}, Str.Parse.{ParsesUnsigned}, declared.result.Result.{Result, TheVariants.{Ok, Err}}}
use Rattle.std.proofs.Common.{◌≡◌, ◌∙◌, ◌++◌, ◌^◌, ◌<◌, ◌≤◌, ◌↔◌, ℕ, zero, suc, List, Some, ap, sym, subst, arith, codes, get_or}
use Rattle.std.proofs.lemmas.Fmt.{decimal-digits_value, decimal_digit, decimal_injective, first_decimal, parse-decimal}
use Rattle.std.proofs.lemmas.{List.{append_cancel_left}, Option.{same_Some}, Str.Parse.{numerals_by_value, parse_plain, tells_digits}}
use Rattle.rm_standby_store.specs.Names.{standby_name, IsNumbered}

pub name-apart : (j k : ℕ) → j < 2 ^ 64 → k < 2 ^ 64 → standby_name j ≡ standby_name k → j ≡ k
name-apart j k small_j small_k same = decimal_injective j k small_j small_k (append_cancel_left (codes "standby_") (decimal j) (decimal k) same)

-- what begins above the digit 0 are not the digits of zero
positive : (n : ℕ) (ds : List ℕ) → decimal n ≡ ds → 48 < get_or ds 0 0 → 1 ≤ n
positive zero ds is above = let first = ap (λ (bs : List ℕ). get_or bs 0 0) (sym (decimal_digit 0 (omega arith)) ∙ is) in absurd (omega (arith, first, above))
positive (suc n) ds is above = omega arith

-- behind the front of a name stand the digits of its number
digits-are : (ds : List ℕ) (k : ℕ) → IsNumbered (codes "standby_" ++ ds) k → ds ≡ decimal k
digits-are ds k of = append_cancel_left (codes "standby_") ds (decimal k) of.is

-- digits that begin above 0 are read as the number that they are of
pub number-read : (E : Type 0) (ds : List ℕ) (r : Result ℕ E) → 48 < get_or ds 0 0 → ParsesUnsigned 32 10 ds r → (k : ℕ) → result_ok r ≡ Some k ↔ IsNumbered (codes "standby_" ++ ds) k
number-read E ds (Ok n) above parses k =
    let own = numerals_by_value _ tells_digits in
    let read = parse_plain own {E = E} 32 ds (Ok n) parses (λ plus. absurd (omega (arith, plus, above))) in
    let small : n < 2 ^ 32 = omega (arith, read.0.2, read.1) in
    let is : decimal n ≡ ds = ap decimal read.1 ∙ decimal-digits_value own ds read.0.0 read.0.1 (λ zero. absurd (omega (arith, zero, above))) (omega (arith, read.0.2)) in (
      λ same.
          let one = same_Some n k same in
          let digits : ds ≡ decimal k = sym is ∙ ap decimal one in
          record { number = (omega (arith, one, positive n ds is above), omega (arith, one, small)); is = ap (λ (bs : List ℕ). codes "standby_" ++ bs) digits },
      λ of. ap Some (decimal_injective n k (omega (arith, small)) (omega (arith, of.number.1)) (is ∙ digits-are ds k of)),
    )
number-read E ds (Err e) above parses k = (
  λ same. absurd cc,
  λ of. let read = parse-decimal {E = E} 32 k ds (Err e) (omega (arith, of.number.1)) (omega (arith, of.number.1)) (digits-are ds k of) parses in absurd cc,
)

-- the digits of a number that a standby may have begin above 0
pub number-begins : (ds : List ℕ) (k : ℕ) → IsNumbered (codes "standby_" ++ ds) k → 48 < get_or ds 0 0
number-begins ds k of = subst (λ (bs : List ℕ). 48 < get_or bs 0 0) (sym (digits-are ds k of)) (first_decimal k of.number.0 (omega (arith, of.number.1)))
