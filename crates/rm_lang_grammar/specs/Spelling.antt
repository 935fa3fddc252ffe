-- One spelling of what a line says: words in capitals, tags in quotes, and nothing that may be left out.
use Rattle.std.specs.Prelude.{◌≡◌, ℕ, List, [], ◌∷◌, ◌++◌, Option, Some, None, codes, ◌==◌, ◌&&◌, ◌||◌, not, Bool, true, false, if◌then◌else◌}
use Rattle.std.specs.{List.{list_all}, Str.{bytes_eq}}
use Rattle.rm_lang_token.specs.declared.token.Token.{Token, TheVariants.{Word, Number, Quoted, Sign}}
use Rattle.rm_lang_grammar.specs.Grammar.{Grammar, end, semicolon, word, flag, noise, number, number_or, text, tag, named, optional, either, numbers, sign, many, TextKind, Choice, first, second, Values, is_tag, capitals, kept_of}

abbrev pub flag_spelled : List ℕ → Bool → List Token
flag_spelled k true = Word k ∷ []
flag_spelled k false = []

abbrev pub number_or_spelled : List ℕ → ℕ → ℕ → List Token
number_or_spelled k d n = if n == d then [] else (Word k ∷ Number n ∷ [])

abbrev pub maybe_spelled : {A : Type 0} → (A → List Token) → Option A → List Token
maybe_spelled spelled (Some x) = spelled x
maybe_spelled spelled None = []

abbrev pub one_spelled : {A B : Type 0} → (A → List Token) → (B → List Token) → Choice A B → List Token
one_spelled one other (first x) = one x
one_spelled one other (second x) = other x

-- each number behind a comma
abbrev pub more_spelled : List ℕ → List Token
more_spelled [] = []
more_spelled (n ∷ ns) = Sign 44 ∷ Number n ∷ more_spelled ns

abbrev pub numbers_spelled : List ℕ → List Token
numbers_spelled [] = []
numbers_spelled (n ∷ ns) = Number n ∷ more_spelled ns

-- each behind the word
abbrev pub many_spelled : {A : Type 0} → List ℕ → (A → List Token) → List A → List Token
many_spelled k spelled [] = []
many_spelled k spelled (x ∷ xs) = Word k ∷ (spelled x ++ many_spelled k spelled xs)

-- the tokens that spell the values
abbrev pub spelled : (g : Grammar) → Values g → List Token
spelled end vs = []
spelled semicolon vs = Sign 59 ∷ []
spelled (word k g) vs = Word k ∷ spelled g vs
spelled (flag k g) vs = flag_spelled k vs.0 ++ spelled g vs.1
spelled (noise k g) vs = spelled g vs
spelled (number p g) vs = Number vs.0 ∷ spelled g vs.1
spelled (number_or k d p g) vs = number_or_spelled k d vs.0 ++ spelled g vs.1
spelled (text p g) vs = Quoted (p.show vs.0) ∷ spelled g vs.1
spelled (tag g) vs = Word (codes "TAG") ∷ Quoted vs.0 ∷ spelled g vs.1
spelled (named k g) vs = Word k ∷ Word (codes "C") ∷ spelled g vs
spelled (optional a g) vs = maybe_spelled (spelled a) vs.0 ++ spelled g vs.1
spelled (either a b g) vs = one_spelled (spelled a) (spelled b) vs.0 ++ spelled g vs.1
spelled (numbers g) vs = numbers_spelled vs.0 ++ spelled g vs.1
spelled (sign c g) vs = Sign c ∷ spelled g vs
spelled (many k a g) vs = many_spelled k (spelled a) vs.0 ++ spelled g vs.1

-- this value is kept
abbrev pub keeps : Option (List ℕ) → List ℕ → Bool
keeps (Some w) v = bytes_eq w v
keeps None v = false

-- what the kind shows is a string that is read as the value
abbrev pub is_shown : TextKind → List ℕ → Bool
is_shown kind v = keeps (kept_of kind.read (kind.show v)) v

-- a tag in capitals
abbrev pub is_capital_tag : List ℕ → Bool
is_capital_tag w = is_tag w && bytes_eq w (capitals w)

abbrev pub maybe_valid : {A : Type 0} → (A → Bool) → Option A → Bool
maybe_valid valid (Some x) = valid x
maybe_valid valid None = true

abbrev pub one_valid : {A B : Type 0} → (A → Bool) → (B → Bool) → Choice A B → Bool
one_valid one other (first x) = one x
one_valid one other (second x) = other x

abbrev pub is_some_list : List ℕ → Bool
is_some_list [] = false
is_some_list (n ∷ ns) = true

-- some tokens spell the values
abbrev pub valid : (g : Grammar) → Values g → Bool
valid end vs = true
valid semicolon vs = true
valid (word k g) vs = valid g vs
valid (flag k g) vs = valid g vs.1
valid (noise k g) vs = valid g vs
valid (number p g) vs = p vs.0 && valid g vs.1
valid (number_or k d p g) vs = (p vs.0 || (vs.0 == d)) && valid g vs.1
valid (text p g) vs = is_shown p vs.0 && valid g vs.1
valid (tag g) vs = is_capital_tag vs.0 && valid g vs.1
valid (named k g) vs = valid g vs
valid (optional a g) vs = maybe_valid (valid a) vs.0 && valid g vs.1
valid (either a b g) vs = one_valid (valid a) (valid b) vs.0 && valid g vs.1
valid (numbers g) vs = is_some_list vs.0 && valid g vs.1
valid (sign c g) vs = not (c == 44) && valid g vs
valid (many k a g) vs = list_all (valid a) vs.0 && valid g vs.1

-- what is kept of a string is kept of the one that shows it
abbrev pub IsFaithful : TextKind → Type 0
IsFaithful kind = (w v : List ℕ) → kept_of kind.read w ≡ Some v → kept_of kind.read (kind.show v) ≡ Some v

-- each kind of string in the line is faithful
abbrev pub AreFaithful : Grammar → Type 0
AreFaithful end = Unit {0}
AreFaithful semicolon = Unit {0}
AreFaithful (word k g) = AreFaithful g
AreFaithful (flag k g) = AreFaithful g
AreFaithful (noise k g) = AreFaithful g
AreFaithful (number p g) = AreFaithful g
AreFaithful (number_or k d p g) = AreFaithful g
AreFaithful (text kind g) = IsFaithful kind × AreFaithful g
AreFaithful (tag g) = AreFaithful g
AreFaithful (named k g) = AreFaithful g
AreFaithful (optional a g) = AreFaithful a × AreFaithful g
AreFaithful (either a b g) = AreFaithful a × AreFaithful b × AreFaithful g
AreFaithful (numbers g) = AreFaithful g
AreFaithful (sign c g) = AreFaithful g
AreFaithful (many k a g) = AreFaithful a × AreFaithful g
