-- The bytes of words and strings are characters of ASCII.
use Rattle.std.specs.{Char.{is_ascii_alphabetic}, List.{All, prefix_len}}
use Rattle.std.proofs.{Common.{◌≡◌, ◌<◌, ℕ, Bool, List, true, take, subst, arith}, lemmas.{Bool.Decides.{nat_tests}, List.{get_or-take}}}
use Rattle.std.proofs.lemmas.List.{Folds.{length-prefix_len}, Sums.{prefix_len_passes}}
use Rattle.rm_lang_token.specs.Tokens.{is_word_byte, is_string_byte}

word_byte-below : (c : ℕ) → is_word_byte c ≡ true → c < 128
word_byte-below c h = grind (arith, nat_tests)

pub letter-below : (c : ℕ) → is_ascii_alphabetic c ≡ true → c < 128
letter-below c h = grind (arith, nat_tests)

string_byte-below : (c : ℕ) → is_string_byte c ≡ true → c < 128
string_byte-below c h = grind (arith, nat_tests)

-- what holds of each byte that passes a test holds of the bytes at the front that pass it
front-All : (p : ℕ → Bool) (P : ℕ → Type 0) → ((c : ℕ) → p c ≡ true → P c) → (cs : List ℕ) → All P (take (prefix_len p cs) cs)
front-All p P f cs k d h =
    let below : k < prefix_len p cs = subst (λ (n : ℕ). k < n) (length-prefix_len p cs) h in
    rw get_or-take (f _ (prefix_len_passes p cs k d below))

pub string-ascii : (cs : List ℕ) → All (λ b. b < 128) (take (prefix_len is_string_byte cs) cs)
string-ascii cs = front-All is_string_byte (λ b. b < 128) string_byte-below cs

pub word-ascii : (cs : List ℕ) → All (λ b. b < 128) (take (prefix_len is_word_byte cs) cs)
word-ascii cs = front-All is_word_byte (λ b. b < 128) word_byte-below cs
