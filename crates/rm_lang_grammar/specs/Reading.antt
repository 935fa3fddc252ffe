-- Reading a line of the grammar from left to right.
use Rattle.std.specs.Prelude.{◌≡◌, ◌==◌, ◌&&◌, ◌||◌, not, ℕ, zero, suc, List, [], ◌∷◌, Option, Some, None, Result, Ok, Err, codes, Bool, true, false, if◌then◌else◌, length}
use Rattle.rm_lang_token.specs.{Statements.{is_word, is_the_sign}, Spelling.{are_string_bytes}, declared.token.Token.{Token}}
use Rattle.rm_lang_token.specs.declared.token.Token.TheVariants.{Word, Number, Quoted, Sign}
use Rattle.rm_lang_grammar.specs.Grammar.{Grammar, end, semicolon, word, flag, noise, number, number_or, text, tag, named, optional, either, numbers, sign, many, Choice, first, second, Values, is_tag, capitals}
use Rattle.rm_lang_grammar.specs.declared.unread.Unread.{Unread, TheVariants.{Other, NoMemory}}

infixl 10 ◌>>=◌
-- goes on with what was read, if anything was
abbrev pub ◌>>=◌ : {A B : Type 0} → Option A → (A → Option B) → Option B
(Some x) >>= f = f x
None >>= f = None

-- nothing is read, unless memory ran out
abbrev pub Fails : {Y : Type 0} → Unread → Option Y → Type 0
Fails NoMemory read = Unit {0}
Fails Other read = read ≡ None

-- what a function returned, seen by view, is what reading gives, unless memory ran out
abbrev pub Gives : {X Y : Type 0} → (X → Y) → Result X Unread → Option Y → Type 0
Gives view (Ok x) read = read ≡ Some (view x)
Gives view (Err e) read = Fails e read

-- where nothing is left
abbrev pub finish_at : {A : Type 0} → A → List Token → Option A
finish_at x ts = if length ts == 0 then Some x else None

-- what follows the word
abbrev pub word_at : List ℕ → List Token → Option (List Token)
word_at k [] = None
word_at k (t ∷ ts) = if is_word k t then Some ts else None

-- what follows the sign
abbrev pub sign_at : ℕ → List Token → Option (List Token)
sign_at c [] = None
sign_at c (t ∷ ts) = if is_the_sign c t && not (c == 44) then Some ts else None

abbrev pub rest_of : List Token → List Token
rest_of [] = []
rest_of (t ∷ ts) = ts

-- the word stands first
abbrev pub begins_with : List ℕ → List Token → Bool
begins_with k [] = false
begins_with k (t ∷ ts) = is_word k t

abbrev pub flag_at : List ℕ → List Token → Bool × List Token
flag_at k ts = if begins_with k ts then (true, rest_of ts) else (false, ts)

abbrev pub number_at : (ℕ → Bool) → List Token → Option (ℕ × List Token)
number_at p (Number n ∷ ts) = if p n then Some (n, ts) else None
number_at p ts = None

abbrev pub number_or_at : List ℕ → ℕ → (ℕ → Bool) → List Token → Option (ℕ × List Token)
number_or_at k d p ts = if begins_with k ts then number_at p (rest_of ts) else Some (d, ts)

abbrev pub string_at : List Token → Option (List ℕ × List Token)
string_at (Quoted w ∷ ts) = if are_string_bytes w then Some (w, ts) else None
string_at ts = None

-- this value, where there is one, and what follows
abbrev pub kept : Option (List ℕ) → List Token → Option (List ℕ × List Token)
kept (Some v) ts = Some (v, ts)
kept None ts = None

-- what is kept of a string
abbrev pub text_at : (List ℕ → Option (List ℕ)) → List Token → Option (List ℕ × List Token)
text_at read ts = string_at ts >>= λ x. kept (read x.0) x.1

-- the tag in capitals, if it is one
abbrev pub tag_of : List ℕ → Option (List ℕ)
tag_of w = if is_tag w then Some (capitals w) else None

abbrev pub name_at : List Token → Option (List ℕ × List Token)
name_at (Word w ∷ ts) = kept (tag_of w) ts
name_at (Quoted w ∷ ts) = kept (tag_of w) ts
name_at ts = None

-- what follows a word
abbrev pub any_word : List Token → Option (List Token)
any_word (Word w ∷ ts) = Some ts
any_word ts = None

-- TAG tag
abbrev pub tag_at : List Token → Option (List ℕ × List Token)
tag_at ts = word_at (codes "TAG") ts >>= λ us. name_at us

-- what follows the word and any other
abbrev pub named_at : List ℕ → List Token → Option (List Token)
named_at k ts = word_at k ts >>= λ us. any_word us

abbrev pub with_front : ℕ → List ℕ × List Token → List ℕ × List Token
with_front n x = (n ∷ x.0, x.1)

-- the numbers behind commas at the front
abbrev pub more_at : List Token → List ℕ × List Token
more_at (Sign c ∷ Number n ∷ ts) = if c == 44 then with_front n (more_at ts) else ([], Sign c ∷ Number n ∷ ts)
more_at ts = ([], ts)

abbrev pub numbers_at : List Token → Option (List ℕ × List Token)
numbers_at (Number n ∷ ts) = Some (with_front n (more_at ts))
numbers_at ts = None

-- the first token tells that the line stands there
abbrev pub begins : Grammar → List Token → Bool
begins end ts = false
begins semicolon ts = false
begins (word k g) ts = begins_with k ts
begins (flag k g) ts = begins_with k ts || begins g ts
begins (noise k g) ts = begins_with k ts || begins g ts
begins (number p g) ts = false
begins (number_or k d p g) ts = begins_with k ts || begins g ts
begins (text p g) ts = false
begins (tag g) ts = begins_with (codes "TAG") ts
begins (named k g) ts = begins_with k ts
begins (optional a g) ts = begins a ts || begins g ts
begins (either a b g) ts = begins a ts || begins b ts
begins (numbers g) ts = false
begins (sign c g) ts = false
begins (many k a g) ts = begins_with k ts || begins g ts

-- a part that may be left out
abbrev pub maybe : {A : Type 0} → Bool → Option (A × List Token) → List Token → Option (Option A × List Token)
maybe there read ts = if there then (read >>= λ x. Some (Some x.0, x.1)) else Some (None, ts)

-- one of two parts
abbrev pub one_of : {A B : Type 0} → Bool → Option (A × List Token) → Option (B × List Token) → Option (Choice A B × List Token)
one_of there one other = if there then (one >>= λ x. Some (first x.0, x.1)) else (other >>= λ x. Some (second x.0, x.1))

-- as many as begin there, each of one token at least
abbrev pub many_at : {A : Type 0} → (List Token → Bool) → (List Token → Option (A × List Token)) → ℕ → List Token → Option (List A × List Token)
many_at b r zero ts = if b ts then None else Some ([], ts)
many_at b r (suc n) ts = if b ts then (r ts >>= λ x. many_at b r n x.1 >>= λ y. Some (x.0 ∷ y.0, y.1)) else Some ([], ts)

-- the values that stand at the front of the tokens, and what is behind them
abbrev pub read : (g : Grammar) → List Token → Option (Values g × List Token)
read end ts = Some (tt, ts)
read semicolon ts = sign_at 59 ts >>= λ us. Some (tt, us)
read (word k g) ts = word_at k ts >>= λ us. read g us
read (flag k g) ts = read g (flag_at k ts).1 >>= λ y. Some (((flag_at k ts).0, y.0), y.1)
read (noise k g) ts = read g (flag_at k ts).1
read (number p g) ts = number_at p ts >>= λ x. read g x.1 >>= λ y. Some ((x.0, y.0), y.1)
read (number_or k d p g) ts = number_or_at k d p ts >>= λ x. read g x.1 >>= λ y. Some ((x.0, y.0), y.1)
read (text p g) ts = text_at p.read ts >>= λ x. read g x.1 >>= λ y. Some ((x.0, y.0), y.1)
read (tag g) ts = tag_at ts >>= λ x. read g x.1 >>= λ y. Some ((x.0, y.0), y.1)
read (named k g) ts = named_at k ts >>= λ us. read g us
read (optional a g) ts = maybe (begins a ts) (read a ts) ts >>= λ x. read g x.1 >>= λ y. Some ((x.0, y.0), y.1)
read (either a b g) ts = one_of (begins a ts) (read a ts) (read b ts) >>= λ x. read g x.1 >>= λ y. Some ((x.0, y.0), y.1)
read (numbers g) ts = numbers_at ts >>= λ x. read g x.1 >>= λ y. Some ((x.0, y.0), y.1)
read (sign c g) ts = sign_at c ts >>= λ us. read g us
read (many k a g) ts = many_at (begins_with k) (λ us. word_at k us >>= read a) (length ts) ts >>= λ x. read g x.1 >>= λ y. Some ((x.0, y.0), y.1)
