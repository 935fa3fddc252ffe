-- The number between two bounds that a text spells.
use Rattle.std.specs.{Prelude.{if◌then◌else◌, nat_le, nat_lt}, Str.{all_ascii_digits}}
use Rattle.std.proofs.Common.{sym, ◌≡◌, ◌&&◌, ◌<◌, ◌≤◌, ℕ, Bool, Some, None, true, false, refl, length, lt-ltb, ltb-true, rules}
use Rattle.std.proofs.lemmas.{Bool.{leb-true}, Str.Parse.{IsNumeralModel, numerals_by_fold}}
use Rattle.rm_lang_words.specs.{Options.{Text}, Form.{number_behind, number_in}}

pub own : IsNumeralModel (λ ds. all_ascii_digits ds ≡ true) (number_behind 0)
own = numerals_by_fold _ (search rules) number_behind (search rules)

abbrev number : Text → ℕ
number text = number_behind 0 text

module _ (low high : ℕ) (text : Text) where
  pub decided : (n : ℕ) (b : Bool) → all_ascii_digits text ≡ true → 0 < length text → n ≡ number text → (nat_le low n && nat_le n high) ≡ b
      → (if b then Some n else None) ≡ number_in low high text
  decided n b digits some is test = rw (sym test, is, lt-ltb 0 (length text) some, digits) refl

  pub refused : (0 < length text → low ≤ number text → number text ≤ high → ⊥) → None ≡ number_in low high text
  refused h = go (nat_lt 0 (length text)) (all_ascii_digits text) (nat_le low (number text)) (nat_le (number text) high) refl refl refl
    where
      go : (a b c d : Bool) → nat_lt 0 (length text) ≡ a → nat_le low (number text) ≡ c → nat_le (number text) high ≡ d
          → None ≡ (if a && b && c && d then Some (number text) else None)
      go true true true true e f g = absurd (h (ltb-true _ _ e) (leb-true _ _ f) (leb-true _ _ g))
      go true true true false e f g = refl
      go true true false d e f g = refl
      go true false c d e f g = refl
      go false b c d e f g = refl
