-- Words one after another, and what follows them.
use Rattle.std.specs.{Prelude.{◌≡◌, ◌⊎◌, ℕ, List, [], ◌∷◌, Option, Some, None, true, false}, Borrow.{Bor}}
use Rattle.rm_lang_token.specs.declared.token.Token.{Token}
use Rattle.rm_lang_grammar.specs.Reading.{◌>>=◌, word_at, rest_of, begins_with}

-- the words, and then what f reads
abbrev pub after_words : {A : Type 0} → List (Bor (List ℕ)) → (List Token → Option A) → List Token → Option A
after_words [] f ts = f ts
after_words (name ∷ names) f ts = word_at name.now ts >>= λ us. after_words names f us

-- the words stand there, and rest is behind them
abbrev pub Stand : List (Bor (List ℕ)) → List Token → List Token → Type 0
Stand [] ts rest = rest ≡ ts
Stand (name ∷ names) ts rest = (word_at name.now ts ≡ Some (rest_of ts)) × Stand names (rest_of ts) rest

-- one of the words is not there
abbrev pub Fail : List (Bor (List ℕ)) → List Token → Type 0
Fail [] ts = ⊥
Fail (name ∷ names) ts = (word_at name.now ts ≡ None) ⊎ ((word_at name.now ts ≡ Some (rest_of ts)) × Fail names (rest_of ts))

-- the word and what is behind it, if it stands first
abbrev pub IsAfter : List ℕ → List Token → Option (Bor (List Token)) → Type 0
IsAfter k ts (Some rest) = (begins_with k ts ≡ true) × (word_at k ts ≡ Some rest.now)
IsAfter k ts None = (begins_with k ts ≡ false) × (word_at k ts ≡ None)
