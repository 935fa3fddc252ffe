-- The notation of the grammar, and which tokens spell what.
use Rattle.std.specs.Prelude.{◌≡◌, ◌⊎◌, ℕ, List, [], ◌∷◌, Option, Some, None, codes, IsTrue, ◌==◌, ◌&&◌, not, nat_le, if◌then◌else◌, Bool, true, false, length, map}
use Rattle.std.specs.{List.{list_all}, Char.{to_ascii_uppercase}}
use Rattle.rm_lang_token.specs.{Tokens.{is_word_byte}, Spelling.{are_string_bytes}, Statements.{is_word}, declared.token.Token.{Token}}
use Rattle.rm_lang_token.specs.declared.token.Token.TheVariants.{Word, Number, Quoted, Sign}

-- what is kept of the bytes, where they are a string
abbrev pub kept_of : (List ℕ → Option (List ℕ)) → List ℕ → Option (List ℕ)
kept_of read w = if are_string_bytes w then read w else None

-- A kind of string: what is kept of one, and a string that shows what is kept.
pub record TextKind : Type 0 where
  pub read : List ℕ → Option (List ℕ)
  pub show : List ℕ → List ℕ

-- One line of the grammar, from left to right.
pub data Grammar : Type 0 where
  -- nothing more
  end : Grammar
  -- the ; of the statement
  semicolon : Grammar
  -- a word in capitals, which is read in any case
  word : List ℕ → Grammar → Grammar
  -- a word in capitals that may be left out
  flag : List ℕ → Grammar → Grammar
  -- the same, where it means nothing
  noise : List ℕ → Grammar → Grammar
  -- n, one that passes the test
  number : (ℕ → Bool) → Grammar → Grammar
  -- [NAME n], one that passes the test; the number stands for one that is left out
  number_or : List ℕ → ℕ → (ℕ → Bool) → Grammar → Grammar
  -- 't', a string of this kind
  text : TextKind → Grammar → Grammar
  -- TAG tag
  tag : Grammar → Grammar
  -- NAME word, any word, which means nothing
  named : List ℕ → Grammar → Grammar
  -- [ .. ]
  optional : Grammar → Grammar → Grammar
  -- ( .. | .. )
  either : Grammar → Grammar → Grammar → Grammar
  -- n {, n}*
  numbers : Grammar → Grammar
  -- a sign, but not the comma
  sign : ℕ → Grammar → Grammar
  -- {NAME ..}*
  many : List ℕ → Grammar → Grammar → Grammar

infixr 20 ◌▸◌
-- a part, and what follows it
abbrev pub ◌▸◌ : (Grammar → Grammar) → Grammar → Grammar
part ▸ g = part g

-- any number
abbrev pub any : ℕ → Bool
any n = true

-- a number from low to high
abbrev pub in_range : ℕ → ℕ → ℕ → Bool
in_range low high n = nat_le low n && nat_le n high

-- one of two
pub data Choice (A B : Type 0) : Type 0 where
  first : A → Choice A B
  second : B → Choice A B

-- What a statement of this line says, from left to right.
abbrev pub Values : Grammar → Type 0
Values end = Unit {0}
Values semicolon = Unit {0}
Values (word k g) = Values g
Values (flag k g) = Bool × Values g
Values (noise k g) = Values g
Values (number p g) = ℕ × Values g
Values (number_or k d p g) = ℕ × Values g
Values (text p g) = List ℕ × Values g
Values (tag g) = List ℕ × Values g
Values (named k g) = Values g
Values (optional a g) = Option (Values a) × Values g
Values (either a b g) = Choice (Values a) (Values b) × Values g
Values (numbers g) = List ℕ × Values g
Values (sign c g) = Values g
Values (many k a g) = List (Values a) × Values g

-- 1 to 30 letters, digits and underscores
abbrev pub is_tag : List ℕ → Bool
is_tag w = nat_le 1 (length w) && nat_le (length w) 30 && list_all is_word_byte w

abbrev pub capitals : List ℕ → List ℕ
capitals w = map to_ascii_uppercase w

-- a word or a string that is a tag, which is kept in capitals
abbrev pub IsName : Token → List ℕ → Type 0
IsName (Word w) name = IsTrue (is_tag w) × (name ≡ capitals w)
IsName (Quoted w) name = IsTrue (is_tag w) × (name ≡ capitals w)
IsName t name = ⊥

-- the word, or nothing
abbrev pub SpellsFlag : List ℕ → Bool → List Token → List Token → Type 0
SpellsFlag k true ts rest = (t : Token) × (ts ≡ t ∷ rest) × IsTrue (is_word k t)
SpellsFlag k false ts rest = ts ≡ rest

-- NAME n, or nothing
abbrev pub SpellsNumberOr : List ℕ → ℕ → (ℕ → Bool) → ℕ → List Token → List Token → Type 0
SpellsNumberOr k d p n ts rest =
    ((t : Token) × (ts ≡ t ∷ Number n ∷ rest) × IsTrue (is_word k t) × IsTrue (p n)) ⊎ ((ts ≡ rest) × (n ≡ d))

-- the part stands there, or nothing does
abbrev pub SpellsMaybe : {A : Type 0} → (A → List Token → List Token → Type 0) → Option A → List Token → List Token → Type 0
SpellsMaybe spells (Some x) ts rest = spells x ts rest
SpellsMaybe spells None ts rest = ts ≡ rest

-- the part that was chosen stands there
abbrev pub SpellsOne : {A B : Type 0} → (A → List Token → List Token → Type 0) → (B → List Token → List Token → Type 0) → Choice A B → List Token → List Token → Type 0
SpellsOne one other (first x) ts rest = one x ts rest
SpellsOne one other (second x) ts rest = other x ts rest

-- each number behind a comma
abbrev pub SpellsMore : List ℕ → List Token → List Token → Type 0
SpellsMore [] ts rest = ts ≡ rest
SpellsMore (n ∷ ns) ts rest = (us : List Token) × (ts ≡ Sign 44 ∷ Number n ∷ us) × SpellsMore ns us rest

-- a number, and others behind commas
abbrev pub SpellsNumbers : List ℕ → List Token → List Token → Type 0
SpellsNumbers [] ts rest = ⊥
SpellsNumbers (n ∷ ns) ts rest = (us : List Token) × (ts ≡ Number n ∷ us) × SpellsMore ns us rest

-- the word, and the part behind it
abbrev pub SpellsBehind : {A : Type 0} → List ℕ → (A → List Token → List Token → Type 0) → A → List Token → List Token → Type 0
SpellsBehind k spells x ts rest = (t : Token) × (us : List Token) × (ts ≡ t ∷ us) × IsTrue (is_word k t) × spells x us rest

-- one after another
abbrev pub SpellsMany : {A : Type 0} → (A → List Token → List Token → Type 0) → List A → List Token → List Token → Type 0
SpellsMany spells [] ts rest = ts ≡ rest
SpellsMany spells (x ∷ xs) ts rest = (us : List Token) × spells x ts us × SpellsMany spells xs us rest

-- The tokens begin with a spelling of the values; rest is behind it.
abbrev pub Spells : (g : Grammar) → Values g → List Token → List Token → Type 0
Spells end vs ts rest = ts ≡ rest
Spells semicolon vs ts rest = ts ≡ Sign 59 ∷ rest
Spells (word k g) vs ts rest = SpellsBehind k (Spells g) vs ts rest
Spells (flag k g) vs ts rest = (us : List Token) × SpellsFlag k vs.0 ts us × Spells g vs.1 us rest
Spells (noise k g) vs ts rest = (said : Bool) × (us : List Token) × SpellsFlag k said ts us × Spells g vs us rest
Spells (number p g) vs ts rest = (us : List Token) × (ts ≡ Number vs.0 ∷ us) × IsTrue (p vs.0) × Spells g vs.1 us rest
Spells (number_or k d p g) vs ts rest = (us : List Token) × SpellsNumberOr k d p vs.0 ts us × Spells g vs.1 us rest
Spells (text p g) vs ts rest = (w : List ℕ) × (us : List Token) × (ts ≡ Quoted w ∷ us) × (kept_of p.read w ≡ Some vs.0) × Spells g vs.1 us rest
Spells (tag g) vs ts rest = (t u : Token) × (us : List Token) × (ts ≡ t ∷ u ∷ us) × IsTrue (is_word (codes "TAG") t) × IsName u vs.0 × Spells g vs.1 us rest
Spells (named k g) vs ts rest = (t : Token) × (w : List ℕ) × (us : List Token) × (ts ≡ t ∷ Word w ∷ us) × IsTrue (is_word k t) × Spells g vs us rest
Spells (optional a g) vs ts rest = (us : List Token) × SpellsMaybe (Spells a) vs.0 ts us × Spells g vs.1 us rest
Spells (either a b g) vs ts rest = (us : List Token) × SpellsOne (Spells a) (Spells b) vs.0 ts us × Spells g vs.1 us rest
Spells (numbers g) vs ts rest = (us : List Token) × SpellsNumbers vs.0 ts us × Spells g vs.1 us rest
Spells (sign c g) vs ts rest = (us : List Token) × (ts ≡ Sign c ∷ us) × IsTrue (not (c == 44)) × Spells g vs us rest
Spells (many k a g) vs ts rest = (us : List Token) × SpellsMany (SpellsBehind k (Spells a)) vs.0 ts us × Spells g vs.1 us rest
