-- What follows a spelling is no longer than the tokens.
use Rattle.std.proofs.Common.{◌≡◌, sym, subst, inl, inr, arith, ◌≤◌, ◌+◌, ℕ, List, [], ◌∷◌, Option, Some, None, Bool, true, false, length}
use Rattle.rm_lang_token.specs.declared.token.Token.{Token, TheVariants.{Word, Number, Sign}}
use Rattle.rm_lang_grammar.specs.Grammar.{Grammar, end, semicolon, word, flag, noise, number, number_or, text, tag, named, optional, either, numbers, sign, many, SpellsMany, SpellsBehind, Choice, first, second, Values, Spells, SpellsMaybe, SpellsOne, SpellsMore, SpellsNumbers, SpellsFlag, SpellsNumberOr}

same_length : (ts us : List Token) → ts ≡ us → length us ≤ length ts
same_length ts us e = subst (λ (z : List Token). length us ≤ length z) (sym e) (omega arith)

one_more : (t : Token) (ts us rest : List Token) → ts ≡ t ∷ us → length rest ≤ length us → length rest + 1 ≤ length ts
one_more t ts us rest e h = subst (λ (z : List Token). length rest + 1 ≤ length z) (sym e) (grind arith)

-- one token, and what follows it
one_less : (t : Token) (ts us rest : List Token) → ts ≡ t ∷ us → length rest ≤ length us → length rest ≤ length ts
one_less t ts us rest e h = let m = one_more t ts us rest e h in omega arith

chained : (a b c : ℕ) → a ≤ b → b ≤ c → a ≤ c
chained a b c h k = omega arith

short_flag : (k : List ℕ) (b : Bool) (ts us : List Token) → SpellsFlag k b ts us → length us ≤ length ts
short_flag k true ts us h = one_less h.0 ts us us h.1 (omega arith)
short_flag k false ts us h = same_length ts us h

short_or : (k : List ℕ) (d : ℕ) (p : ℕ → Bool) (n : ℕ) (ts us : List Token) → SpellsNumberOr k d p n ts us → length us ≤ length ts
short_or k d p n ts us (inl h) = one_less h.0 ts (Number n ∷ us) us h.1 (grind arith)
short_or k d p n ts us (inr h) = same_length ts us h.0

short_more : (ns : List ℕ) (ts us : List Token) → SpellsMore ns ts us → length us ≤ length ts
short_more [] ts us h = same_length ts us h
short_more (n ∷ ns) ts us h = let i = short_more ns h.0 us h.2 in one_less (Sign 44) ts (Number n ∷ h.0) us h.1 (grind arith)

short_numbers : (ns : List ℕ) (ts us : List Token) → SpellsNumbers ns ts us → length us ≤ length ts
short_numbers [] ts us h = absurd h
short_numbers (n ∷ ns) ts us h = one_less (Number n) ts h.0 us h.1 (short_more ns h.0 us h.2)

short_maybe : {A : Type 0} (spells : A → List Token → List Token → Type 0) (v : Option A) (ts us : List Token)
    → ((x : A) → spells x ts us → length us ≤ length ts) → SpellsMaybe spells v ts us → length us ≤ length ts
short_maybe spells (Some x) ts us go h = go x h
short_maybe spells None ts us go h = same_length ts us h

short_one : {A B : Type 0} (a : A → List Token → List Token → Type 0) (b : B → List Token → List Token → Type 0) (v : Choice A B) (ts us : List Token)
    → ((x : A) → a x ts us → length us ≤ length ts) → ((x : B) → b x ts us → length us ≤ length ts) → SpellsOne a b v ts us → length us ≤ length ts
short_one a b (first x) ts us go to h = go x h
short_one a b (second x) ts us go to h = to x h

short_many : {A : Type 0} (k : List ℕ) (spells : A → List Token → List Token → Type 0) (xs : List A) (ts us : List Token)
    → ((x : A) (vs ws : List Token) → spells x vs ws → length ws ≤ length vs)
    → SpellsMany (SpellsBehind k spells) xs ts us → length us + length xs ≤ length ts
short_many k spells [] ts us go h = subst (λ (z : List Token). length us + 0 ≤ length z) (sym h) (omega arith)
short_many k spells (x ∷ xs) ts us go h =
    let i = short_many k spells xs h.0 us go h.2 in
    let j = one_more h.1.0 ts h.1.1 h.0 h.1.2 (go x h.1.1 h.0 h.1.4) in grind arith

-- a spelling is not longer than its tokens
pub short : (g : Grammar) (vs : Values g) (ts rest : List Token) → Spells g vs ts rest → length rest ≤ length ts
short end vs ts rest h = same_length ts rest h
short semicolon vs ts rest h = one_less (Sign 59) ts rest rest h (omega arith)
short (word k g) vs ts rest h = one_less h.0 ts h.1 rest h.2 (short g vs h.1 rest h.4)
short (flag k g) vs ts rest h = chained (length rest) (length h.0) (length ts) (short g vs.1 h.0 rest h.2) (short_flag k vs.0 ts h.0 h.1)
short (noise k g) vs ts rest h = chained (length rest) (length h.1) (length ts) (short g vs h.1 rest h.3) (short_flag k h.0 ts h.1 h.2)
short (number p g) vs ts rest h = one_less (Number vs.0) ts h.0 rest h.1 (short g vs.1 h.0 rest h.3)
short (number_or k d p g) vs ts rest h = chained (length rest) (length h.0) (length ts) (short g vs.1 h.0 rest h.2) (short_or k d p vs.0 ts h.0 h.1)
short (text p g) vs ts rest h = let i = short g vs.1 h.1 rest h.4 in subst (λ (z : List Token). length rest ≤ length z) (sym h.2) (grind arith)
short (tag g) vs ts rest h = let i = short g vs.1 h.2 rest h.6 in one_less h.0 ts (h.1 ∷ h.2) rest h.3 (grind arith)
short (named k g) vs ts rest h = let i = short g vs h.2 rest h.5 in one_less h.0 ts (Word h.1 ∷ h.2) rest h.3 (grind arith)
short (optional a g) vs ts rest h =
    let part = short_maybe (Spells a) vs.0 ts h.0 (λ x s. short a x ts h.0 s) h.1 in
    chained (length rest) (length h.0) (length ts) (short g vs.1 h.0 rest h.2) part
short (either a b g) vs ts rest h =
    let part = short_one (Spells a) (Spells b) vs.0 ts h.0 (λ x s. short a x ts h.0 s) (λ x s. short b x ts h.0 s) h.1 in
    chained (length rest) (length h.0) (length ts) (short g vs.1 h.0 rest h.2) part
short (numbers g) vs ts rest h = chained (length rest) (length h.0) (length ts) (short g vs.1 h.0 rest h.2) (short_numbers vs.0 ts h.0 h.1)
short (sign c g) vs ts rest h = one_less (Sign c) ts h.0 rest h.1 (short g vs h.0 rest h.3)
short (many k a g) vs ts rest h =
    let part = short_many k (Spells a) vs.0 ts h.0 (λ x us ws s. short a x us ws s) h.1 in
    let i = short g vs.1 h.0 rest h.2 in omega arith

-- there are no more items than tokens
pub few : (k : List ℕ) (a : Grammar) (xs : List (Values a)) (ts us : List Token) → SpellsMany (SpellsBehind k (Spells a)) xs ts us → length xs ≤ length ts
few k a xs ts us h = let m = short_many k (Spells a) xs ts us (λ x vs ws s. short a x vs ws s) h in omega arith
