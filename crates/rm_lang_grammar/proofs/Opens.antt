-- What may stand first in a line.
use Rattle.std.specs.Str.{str_eq_ignore_ascii_case, str_to_ascii_lowercase}
use Rattle.std.proofs.Common.{◌≡◌, refl, sym, ◌∙◌, subst, inl, inr, codes, ◌++◌, ℕ, List, [], ◌∷◌, Option, Some, None, Bool, true, false, ◌||◌, not}
use Rattle.std.proofs.lemmas.{Bool.{and_parts, or_cases, or_left, or_right, not-true, false_from_ne_true}, Slice.Eq.{bytes_eq-Decides}}
use Rattle.rm_lang_token.specs.{Statements.{is_word}, declared.token.Token.{Token, TheVariants.{Word, Number, Quoted, Sign, Bad}}}
use Rattle.rm_lang_grammar.specs.Grammar.{Grammar, end, semicolon, word, flag, noise, number, number_or, text, tag, named, optional, either, numbers, sign, many, SpellsMany, SpellsBehind, Choice, first, second, Values, Spells, SpellsMaybe, SpellsOne, SpellsNumbers, SpellsFlag, SpellsNumberOr}
use Rattle.rm_lang_grammar.specs.{Reading.{begins, begins_with}, Clear.{among, OpensAs, Follows, firsts, unlike, apart, keyed}}

-- two words that are like a third are alike
pub like_both : (w k j : List ℕ) → str_eq_ignore_ascii_case w k ≡ true → str_eq_ignore_ascii_case w j ≡ true → str_eq_ignore_ascii_case k j ≡ true
like_both w k j p q =
    let a = (bytes_eq-Decides (str_to_ascii_lowercase w) (str_to_ascii_lowercase k)).0 p in
    let b = (bytes_eq-Decides (str_to_ascii_lowercase w) (str_to_ascii_lowercase j)).0 q in
    (bytes_eq-Decides (str_to_ascii_lowercase k) (str_to_ascii_lowercase j)).1 (sym a ∙ b)

unlike_word : (w k : List ℕ) (js : List (List ℕ)) → unlike k js ≡ true → is_word k (Word w) ≡ true → among js (Word w) ≡ true → ⊥
unlike_word w k [] u p q = cc
unlike_word w k (j ∷ js) u p q =
    let b = and_parts (not (str_eq_ignore_ascii_case k j)) (unlike k js) u in
    elim (or_cases (is_word j (Word w)) (among js (Word w)) q) [
      | inl r ↦ (let n = not-true (str_eq_ignore_ascii_case k j) b.0 in let y = like_both w k j p r in cc)
      | inr r ↦ unlike_word w k js b.1 p r
    ]

apart_word : (w : List ℕ) (ks js : List (List ℕ)) → apart ks js ≡ true → among ks (Word w) ≡ true → among js (Word w) ≡ true → ⊥
apart_word w [] js a p q = cc
apart_word w (k ∷ ks) js a p q =
    let b = and_parts (unlike k js) (apart ks js) a in
    elim (or_cases (is_word k (Word w)) (among ks (Word w)) p) [ inl r ↦ unlike_word w k js b.0 r q | inr r ↦ apart_word w ks js b.1 r q ]

among_left : (ks js : List (List ℕ)) (t : Token) → among ks t ≡ true → among (ks ++ js) t ≡ true
among_left [] js t e = absurd (cc)
among_left (k ∷ ks) js t e =
    elim (or_cases (is_word k t) (among ks t) e) [
      | inl r ↦ or_left (is_word k t) (among (ks ++ js) t) r
      | inr r ↦ or_right (is_word k t) (among (ks ++ js) t) (among_left ks js t r)
    ]

among_right : (ks js : List (List ℕ)) (t : Token) → among js t ≡ true → among (ks ++ js) t ≡ true
among_right [] js t e = e
among_right (k ∷ ks) js t e = or_right (is_word k t) (among (ks ++ js) t) (among_right ks js t e)

opens_left : (ks js : List (List ℕ)) (ts : List Token) → OpensAs ks ts → OpensAs (ks ++ js) ts
opens_left ks js [] h = tt
opens_left ks js (Word w ∷ ts) h = among_left ks js (Word w) h
opens_left ks js (Sign c ∷ ts) h = h
opens_left ks js (Number n ∷ ts) h = tt
opens_left ks js (Quoted w ∷ ts) h = tt
opens_left ks js (Bad ∷ ts) h = tt

opens_right : (ks js : List (List ℕ)) (ts : List Token) → OpensAs js ts → OpensAs (ks ++ js) ts
opens_right ks js [] h = tt
opens_right ks js (Word w ∷ ts) h = among_right ks js (Word w) h
opens_right ks js (Sign c ∷ ts) h = h
opens_right ks js (Number n ∷ ts) h = tt
opens_right ks js (Quoted w ∷ ts) h = tt
opens_right ks js (Bad ∷ ts) h = tt

opens_key : (k : List ℕ) (ks : List (List ℕ)) (t : Token) (ts : List Token) → is_word k t ≡ true → OpensAs (k ∷ ks) (t ∷ ts)
opens_key k ks (Word w) ts e = or_left (is_word k (Word w)) (among ks (Word w)) e
opens_key k ks (Sign c) ts e = absurd (cc)
opens_key k ks (Number n) ts e = tt
opens_key k ks (Quoted w) ts e = tt
opens_key k ks Bad ts e = tt

-- a word that may be left out
key_or_rest : (k : List ℕ) (ks : List (List ℕ)) (t : Token) (b : Bool) → (b ≡ true → among ks t ≡ true) → (is_word k t || b) ≡ true → among (k ∷ ks) t ≡ true
key_or_rest k ks t b h e =
    elim (or_cases (is_word k t) b e) [ inl r ↦ or_left (is_word k t) (among ks t) r | inr r ↦ or_right (is_word k t) (among ks t) (h r) ]

begins_among : (g : Grammar) (follow : List (List ℕ)) (t : Token) (ts : List Token) → begins g (t ∷ ts) ≡ true → among (firsts g follow) t ≡ true
begins_among end F t ts e = absurd (cc)
begins_among semicolon F t ts e = absurd (cc)
begins_among (word k g) F t ts e = or_left (is_word k t) false e
begins_among (flag k g) F t ts e = key_or_rest k (firsts g F) t (begins g (t ∷ ts)) (λ r. begins_among g F t ts r) e
begins_among (noise k g) F t ts e = key_or_rest k (firsts g F) t (begins g (t ∷ ts)) (λ r. begins_among g F t ts r) e
begins_among (number p g) F t ts e = absurd (cc)
begins_among (number_or k d p g) F t ts e = key_or_rest k (firsts g F) t (begins g (t ∷ ts)) (λ r. begins_among g F t ts r) e
begins_among (text p g) F t ts e = absurd (cc)
begins_among (tag g) F t ts e = or_left (is_word (codes "TAG") t) false e
begins_among (named k g) F t ts e = or_left (is_word k t) false e
begins_among (optional a g) F t ts e =
    let G = firsts g F in
    elim (or_cases (begins a (t ∷ ts)) (begins g (t ∷ ts)) e) [
      | inl r ↦ among_left (firsts a G) G t (begins_among a G t ts r)
      | inr r ↦ among_right (firsts a G) G t (begins_among g F t ts r)
    ]
begins_among (either a b g) F t ts e =
    let G = firsts g F in
    elim (or_cases (begins a (t ∷ ts)) (begins b (t ∷ ts)) e) [
      | inl r ↦ among_left (firsts a G) (firsts b G) t (begins_among a G t ts r)
      | inr r ↦ among_right (firsts a G) (firsts b G) t (begins_among b G t ts r)
    ]
begins_among (numbers g) F t ts e = absurd (cc)
begins_among (sign c g) F t ts e = absurd (cc)
begins_among (many k a g) F t ts e = key_or_rest k (firsts g F) t (begins g (t ∷ ts)) (λ r. begins_among g F t ts r) e

begins-nil : (g : Grammar) → begins g [] ≡ false
begins-nil end = refl
begins-nil semicolon = refl
begins-nil (word k g) = refl
begins-nil (flag k g) = begins-nil g
begins-nil (noise k g) = begins-nil g
begins-nil (number p g) = refl
begins-nil (number_or k d p g) = begins-nil g
begins-nil (text p g) = refl
begins-nil (tag g) = refl
begins-nil (named k g) = refl
begins-nil (optional a g) = let x = begins-nil a in let y = begins-nil g in rw x y
begins-nil (either a b g) = let x = begins-nil a in let y = begins-nil b in rw x y
begins-nil (numbers g) = refl
begins-nil (sign c g) = refl
begins-nil (many k a g) = begins-nil g

-- only a word is among words
no_sign : (ks : List (List ℕ)) (c : ℕ) → among ks (Sign c) ≡ true → ⊥
no_sign [] c h = cc
no_sign (k ∷ ks) c h = no_sign ks c h

no_number : (ks : List (List ℕ)) (n : ℕ) → among ks (Number n) ≡ true → ⊥
no_number [] n h = cc
no_number (k ∷ ks) n h = no_number ks n h

no_quoted : (ks : List (List ℕ)) (w : List ℕ) → among ks (Quoted w) ≡ true → ⊥
no_quoted [] w h = cc
no_quoted (k ∷ ks) w h = no_quoted ks w h

no_bad : (ks : List (List ℕ)) → among ks Bad ≡ true → ⊥
no_bad [] h = cc
no_bad (k ∷ ks) h = no_bad ks h

-- a line does not begin where other words stand
pub not_begun : (a : Grammar) (F G : List (List ℕ)) (ts : List Token) → apart (firsts a F) G ≡ true → OpensAs G ts → begins a ts ≡ false
not_begun a F G [] p h = begins-nil a
not_begun a F G (Word w ∷ ts) p h = false_from_ne_true (begins a (Word w ∷ ts)) (λ e. apart_word w (firsts a F) G p (begins_among a F (Word w) ts e) h)
not_begun a F G (Sign c ∷ ts) p h = false_from_ne_true (begins a (Sign c ∷ ts)) (λ e. no_sign (firsts a F) c (begins_among a F (Sign c) ts e))
not_begun a F G (Number n ∷ ts) p h = false_from_ne_true (begins a (Number n ∷ ts)) (λ e. no_number (firsts a F) n (begins_among a F (Number n) ts e))
not_begun a F G (Quoted w ∷ ts) p h = false_from_ne_true (begins a (Quoted w ∷ ts)) (λ e. no_quoted (firsts a F) w (begins_among a F (Quoted w) ts e))
not_begun a F G (Bad ∷ ts) p h = false_from_ne_true (begins a (Bad ∷ ts)) (λ e. no_bad (firsts a F) (begins_among a F Bad ts e))

-- a word does not stand where other words do
pub not_with : (k : List ℕ) (G : List (List ℕ)) (ts : List Token) → unlike k G ≡ true → OpensAs G ts → begins_with k ts ≡ false
not_with k G [] p h = refl
not_with k G (Word w ∷ ts) p h = false_from_ne_true (is_word k (Word w)) (λ e. unlike_word w k G p e h)
not_with k G (Sign c ∷ ts) p h = refl
not_with k G (Number n ∷ ts) p h = refl
not_with k G (Quoted w ∷ ts) p h = refl
not_with k G (Bad ∷ ts) p h = refl

opens_flag : (k : List ℕ) (ks : List (List ℕ)) (b : Bool) (ts us : List Token) → OpensAs ks us → SpellsFlag k b ts us → OpensAs (k ∷ ks) ts
opens_flag k ks true ts us o h = subst (λ z. OpensAs (k ∷ ks) z) (sym h.1) (opens_key k ks h.0 us h.2)
opens_flag k ks false ts us o h = subst (λ z. OpensAs (k ∷ ks) z) (sym h) (opens_right (k ∷ []) ks us o)

opens_or : (k : List ℕ) (d : ℕ) (p : ℕ → Bool) (ks : List (List ℕ)) (n : ℕ) (ts us : List Token) → OpensAs ks us → SpellsNumberOr k d p n ts us → OpensAs (k ∷ ks) ts
opens_or k d p ks n ts us o (inl h) = subst (λ z. OpensAs (k ∷ ks) z) (sym h.1) (opens_key k ks h.0 (Number n ∷ us) h.2)
opens_or k d p ks n ts us o (inr h) = subst (λ z. OpensAs (k ∷ ks) z) (sym h.0) (opens_right (k ∷ []) ks us o)

opens_maybe : (a : Grammar) (F : List (List ℕ)) (v : Option (Values a)) (ts us : List Token) → OpensAs F us → SpellsMaybe (Spells a) v ts us
    → ((x : Values a) → Spells a x ts us → OpensAs (firsts a F) ts) → OpensAs (firsts a F ++ F) ts
opens_maybe a F (Some x) ts us o h k = opens_left (firsts a F) F ts (k x h)
opens_maybe a F None ts us o h k = opens_right (firsts a F) F ts (subst (λ z. OpensAs F z) (sym h) o)

opens_one : (a b : Grammar) (F G : List (List ℕ)) (v : Choice (Values a) (Values b)) (ts us : List Token) → SpellsOne (Spells a) (Spells b) v ts us
    → ((x : Values a) → Spells a x ts us → OpensAs F ts) → ((x : Values b) → Spells b x ts us → OpensAs G ts) → OpensAs (F ++ G) ts
opens_one a b F G (first x) ts us h k l = opens_left F G ts (k x h)
opens_one a b F G (second x) ts us h k l = opens_right F G ts (l x h)

opens_numbers : (ns : List ℕ) (ts us : List Token) → SpellsNumbers ns ts us → OpensAs [] ts
opens_numbers [] ts us h = absurd h
opens_numbers (n ∷ ns) ts us h = subst (λ z. OpensAs [] z) (sym h.1) tt

pub opens_many : {A : Type 0} (k : List ℕ) (spells : A → List Token → List Token → Type 0) (ks : List (List ℕ)) (xs : List A) (ts us : List Token)
    → OpensAs ks us → SpellsMany (SpellsBehind k spells) xs ts us → OpensAs (k ∷ ks) ts
opens_many k spells ks [] ts us o h = subst (λ z. OpensAs (k ∷ ks) z) (sym h) (opens_right (k ∷ []) ks us o)
opens_many k spells ks (x ∷ xs) ts us o h = subst (λ z. OpensAs (k ∷ ks) z) (sym h.1.2) (opens_key k ks h.1.0 h.1.1 h.1.3)

-- a line without an end of its own
pub behind_end : (F : List (List ℕ)) (rest : List Token) → Follows end F rest → OpensAs F rest
behind_end F rest (inl c) = absurd (cc)
behind_end F rest (inr o) = o

-- the words that a spelling begins with, where those of F stand behind it
pub opens : (g : Grammar) (F : List (List ℕ)) (vs : Values g) (ts rest : List Token) → Follows g F rest → Spells g vs ts rest → OpensAs (firsts g F) ts
opens end F vs ts rest o h = subst (λ z. OpensAs F z) (sym h) (behind_end F rest o)
opens semicolon F vs ts rest o h = subst (λ z. OpensAs [] z) (sym h) refl
opens (word k g) F vs ts rest o h = subst (λ z. OpensAs (k ∷ []) z) (sym h.2) (opens_key k [] h.0 h.1 h.3)
opens (flag k g) F vs ts rest o h = opens_flag k (firsts g F) vs.0 ts h.0 (opens g F vs.1 h.0 rest o h.2) h.1
opens (noise k g) F vs ts rest o h = opens_flag k (firsts g F) h.0 ts h.1 (opens g F vs h.1 rest o h.3) h.2
opens (number p g) F vs ts rest o h = subst (λ z. OpensAs [] z) (sym h.1) tt
opens (number_or k d p g) F vs ts rest o h = opens_or k d p (firsts g F) vs.0 ts h.0 (opens g F vs.1 h.0 rest o h.2) h.1
opens (text p g) F vs ts rest o h = subst (λ z. OpensAs [] z) (sym h.2) tt
opens (tag g) F vs ts rest o h = subst (λ z. OpensAs (codes "TAG" ∷ []) z) (sym h.3) (opens_key (codes "TAG") [] h.0 (h.1 ∷ h.2) h.4)
opens (named k g) F vs ts rest o h = subst (λ z. OpensAs (k ∷ []) z) (sym h.3) (opens_key k [] h.0 (Word h.1 ∷ h.2) h.4)
opens (optional a g) F vs ts rest o h =
    let r = opens g F vs.1 h.0 rest o h.2 in
    opens_maybe a (firsts g F) vs.0 ts h.0 r h.1 (λ x s. opens a (firsts g F) x ts h.0 (inr r) s)
opens (either a b g) F vs ts rest o h =
    let r = opens g F vs.1 h.0 rest o h.2 in
    opens_one a b (firsts a (firsts g F)) (firsts b (firsts g F)) vs.0 ts h.0 h.1 (λ x s. opens a (firsts g F) x ts h.0 (inr r) s) (λ x s. opens b (firsts g F) x ts h.0 (inr r) s)
opens (numbers g) F vs ts rest o h = opens_numbers vs.0 ts h.0 h.1
opens (sign c g) F vs ts rest o h = subst (λ z. OpensAs [] z) (sym h.1) h.2
opens (many k a g) F vs ts rest o h = opens_many k (Spells a) (firsts g F) vs.0 ts h.0 (opens g F vs.1 h.0 rest o h.2) h.1

begun_one : (a b : Grammar) (v : Choice (Values a) (Values b)) (ts us : List Token) → SpellsOne (Spells a) (Spells b) v ts us
    → ((x : Values a) → Spells a x ts us → begins a ts ≡ true) → ((x : Values b) → Spells b x ts us → begins b ts ≡ true) → (begins a ts || begins b ts) ≡ true
begun_one a b (first x) ts us h k l = or_left (begins a ts) (begins b ts) (k x h)
begun_one a b (second x) ts us h k l = or_right (begins a ts) (begins b ts) (l x h)

-- where a word stands first, a spelling begins with it
pub begun : (g : Grammar) (vs : Values g) (ts rest : List Token) → keyed g ≡ true → Spells g vs ts rest → begins g ts ≡ true
begun end vs ts rest k h = absurd (cc)
begun semicolon vs ts rest k h = absurd (cc)
begun (word w g) vs ts rest k h = subst (λ z. begins_with w z ≡ true) (sym h.2) h.3
begun (flag w g) vs ts rest k h = absurd (cc)
begun (noise w g) vs ts rest k h = absurd (cc)
begun (number p g) vs ts rest k h = absurd (cc)
begun (number_or w d p g) vs ts rest k h = absurd (cc)
begun (text p g) vs ts rest k h = absurd (cc)
begun (tag g) vs ts rest k h = subst (λ z. begins_with (codes "TAG") z ≡ true) (sym h.3) h.4
begun (named w g) vs ts rest k h = subst (λ z. begins_with w z ≡ true) (sym h.3) h.4
begun (optional a g) vs ts rest k h = absurd (cc)
begun (either a b g) vs ts rest k h =
    let e = and_parts (keyed a) (keyed b) k in
    begun_one a b vs.0 ts h.0 h.1 (λ x s. begun a x ts h.0 e.0 s) (λ x s. begun b x ts h.0 e.1 s)
begun (numbers g) vs ts rest k h = absurd (cc)
begun (sign c g) vs ts rest k h = absurd (cc)
begun (many w a g) vs ts rest k h = absurd (cc)
