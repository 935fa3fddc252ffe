-- What is valid is spelled, and what is spelled is valid.
use Rattle.std.specs.{Prelude.{nat_le}, List.{list_all}, Char.{to_ascii_uppercase}, Str.{bytes_eq, str_to_ascii_lowercase}}
use Rattle.std.proofs.Common.{◌≡◌, refl, ap, sym, subst, inl, inr, codes, cond, arith, append_assoc, ◌==◌, ◌++◌, eq-eqb, ℕ, List, [], ◌∷◌, Option, Some, None, Bool, true, false, length, ◌&&◌, ◌||◌, not}
use Rattle.std.proofs.lemmas.{Bool.{and_parts, and_from, or_left, or_right, eqb-true, Decides.{nat_tests}}, List.{length-map}}
use Rattle.std.proofs.lemmas.{Slice.Eq.{bytes_eq-Decides}, Str.Ascii.{uppercase-uppercase}}
use Rattle.rm_lang_token.specs.{Tokens.{is_word_byte}, Statements.{is_word}, declared.token.Token.{Token}}
use Rattle.rm_lang_token.specs.declared.token.Token.TheVariants.{Word, Number, Quoted, Sign, Bad}
use Rattle.rm_lang_grammar.specs.Grammar.{Grammar, end, semicolon, word, flag, noise, number, number_or, text, tag, named, optional, either, numbers, sign, many, Choice, first, second, Values, Spells, SpellsFlag, SpellsNumberOr, SpellsMaybe, SpellsOne, SpellsMore, SpellsNumbers, SpellsBehind, SpellsMany, IsName, is_tag, capitals, kept_of}
use Rattle.rm_lang_grammar.specs.Spelling.{spelled, valid, flag_spelled, number_or_spelled, maybe_spelled, one_spelled, more_spelled, numbers_spelled, many_spelled, keeps, is_shown, is_capital_tag, maybe_valid, one_valid, is_some_list, AreFaithful}

-- a word is spelled as itself
same_word : (k : List ℕ) → is_word k (Word k) ≡ true
same_word k = (bytes_eq-Decides (str_to_ascii_lowercase k) (str_to_ascii_lowercase k)).1 refl

-- a part, and what follows it
grouped : (P : List Token → Type 0) (xs ys zs : List Token) → P (xs ++ (ys ++ zs)) → P ((xs ++ ys) ++ zs)
grouped P xs ys zs h = subst (λ ts. P ts) (sym (append_assoc xs ys zs)) h

flag_spells : (k : List ℕ) (b : Bool) (us : List Token) → SpellsFlag k b (flag_spelled k b ++ us) us
flag_spells k true us = (Word k, refl, same_word k)
flag_spells k false us = refl

or_false : (a : Bool) → (a || false) ≡ true → a ≡ true
or_false true h = refl
or_false false h = h

or_spells : (k : List ℕ) (d n : ℕ) (p : ℕ → Bool) (us : List Token) (b : Bool) → (n == d) ≡ b → (p n || b) ≡ true
    → SpellsNumberOr k d p n (cond b [] (Word k ∷ Number n ∷ []) ++ us) us
or_spells k d n p us true e h = inr (refl, eqb-true n d e)
or_spells k d n p us false e h = inl (Word k, refl, same_word k, or_false (p n) h)

pub keeps_same : (o : Option (List ℕ)) (v : List ℕ) → keeps o v ≡ true → o ≡ Some v
keeps_same (Some w) v e = ap (λ (x : List ℕ). Some x) ((bytes_eq-Decides w v).0 e)
keeps_same None v e = absurd (cc)

pub same_keeps : (o : Option (List ℕ)) (v : List ℕ) → o ≡ Some v → keeps o v ≡ true
same_keeps o v e = subst (λ x. keeps x v ≡ true) (sym e) ((bytes_eq-Decides v v).1 refl)

name_spells : (w : List ℕ) → is_capital_tag w ≡ true → IsName (Quoted w) w
name_spells w e = let b = and_parts (is_tag w) (bytes_eq w (capitals w)) e in (b.0, (bytes_eq-Decides w (capitals w)).0 b.1)

maybe_spells : {A : Type 0} (spells : A → List Token → List Token → Type 0) (test : A → Bool) (spell : A → List Token) (v : Option A) (us : List Token)
    → ((x : A) → test x ≡ true → spells x (spell x ++ us) us) → maybe_valid test v ≡ true → SpellsMaybe spells v (maybe_spelled spell v ++ us) us
maybe_spells spells test spell (Some x) us go e = go x e
maybe_spells spells test spell None us go e = refl

one_spells : {A B : Type 0} (one : A → List Token → List Token → Type 0) (other : B → List Token → List Token → Type 0) (test : A → Bool) (test' : B → Bool)
    (spell : A → List Token) (spell' : B → List Token) (v : Choice A B) (us : List Token)
    → ((x : A) → test x ≡ true → one x (spell x ++ us) us) → ((x : B) → test' x ≡ true → other x (spell' x ++ us) us)
    → one_valid test test' v ≡ true → SpellsOne one other v (one_spelled spell spell' v ++ us) us
one_spells one other test test' spell spell' (first x) us go to e = go x e
one_spells one other test test' spell spell' (second x) us go to e = to x e

more_spells : (ns : List ℕ) (us : List Token) → SpellsMore ns (more_spelled ns ++ us) us
more_spells [] us = refl
more_spells (n ∷ ns) us = (more_spelled ns ++ us, refl, more_spells ns us)

numbers_spells : (ns : List ℕ) (us : List Token) → is_some_list ns ≡ true → SpellsNumbers ns (numbers_spelled ns ++ us) us
numbers_spells [] us e = absurd (cc)
numbers_spells (n ∷ ns) us e = (more_spelled ns ++ us, refl, more_spells ns us)

many_spells : {A : Type 0} (k : List ℕ) (spells : A → List Token → List Token → Type 0) (test : A → Bool) (spell : A → List Token) (xs : List A) (us : List Token)
    → ((x : A) (vs : List Token) → test x ≡ true → spells x (spell x ++ vs) vs) → list_all test xs ≡ true
    → SpellsMany (SpellsBehind k spells) xs (many_spelled k spell xs ++ us) us
many_spells k spells test spell [] us go e = refl
many_spells k spells test spell (x ∷ xs) us go e =
    let b = and_parts (test x) (list_all test xs) e in
    let vs = many_spelled k spell xs ++ us in
    let tail = (spell x ++ many_spelled k spell xs) ++ us in
    (vs, (Word k, tail, refl, same_word k, grouped (λ ts. spells x ts vs) (spell x) (many_spelled k spell xs) us (go x vs b.0)), many_spells k spells test spell xs us go b.1)

-- what is valid is spelled
pub valid_spells : (g : Grammar) (vs : Values g) (rest : List Token) → valid g vs ≡ true → Spells g vs (spelled g vs ++ rest) rest
valid_spells end vs rest e = refl
valid_spells semicolon vs rest e = refl
valid_spells (word k g) vs rest e = (Word k, spelled g vs ++ rest, refl, same_word k, valid_spells g vs rest e)
valid_spells (flag k g) vs rest e =
    let us = spelled g vs.1 ++ rest in
    (us, grouped (λ ts. SpellsFlag k vs.0 ts us) (flag_spelled k vs.0) (spelled g vs.1) rest (flag_spells k vs.0 us), valid_spells g vs.1 rest e)
valid_spells (noise k g) vs rest e = (false, spelled g vs ++ rest, refl, valid_spells g vs rest e)
valid_spells (number p g) vs rest e =
    let b = and_parts (p vs.0) (valid g vs.1) e in
    (spelled g vs.1 ++ rest, refl, b.0, valid_spells g vs.1 rest b.1)
valid_spells (number_or k d p g) vs rest e =
    let b = and_parts (p vs.0 || (vs.0 == d)) (valid g vs.1) e in
    let us = spelled g vs.1 ++ rest in
    (us, grouped (λ ts. SpellsNumberOr k d p vs.0 ts us) (number_or_spelled k d vs.0) (spelled g vs.1) rest (or_spells k d vs.0 p us (vs.0 == d) refl b.0), valid_spells g vs.1 rest b.1)
valid_spells (text p g) vs rest e =
    let b = and_parts (is_shown p vs.0) (valid g vs.1) e in
    (p.show vs.0, spelled g vs.1 ++ rest, refl, keeps_same (kept_of p.read (p.show vs.0)) vs.0 b.0, valid_spells g vs.1 rest b.1)
valid_spells (tag g) vs rest e =
    let b = and_parts (is_capital_tag vs.0) (valid g vs.1) e in
    (Word (codes "TAG"), Quoted vs.0, spelled g vs.1 ++ rest, refl, refl, name_spells vs.0 b.0, valid_spells g vs.1 rest b.1)
valid_spells (named k g) vs rest e = (Word k, codes "C", spelled g vs ++ rest, refl, same_word k, valid_spells g vs rest e)
valid_spells (optional a g) vs rest e =
    let b = and_parts (maybe_valid (valid a) vs.0) (valid g vs.1) e in
    let us = spelled g vs.1 ++ rest in
    let part = maybe_spells (Spells a) (valid a) (spelled a) vs.0 us (λ x h. valid_spells a x us h) b.0 in
    (us, grouped (λ ts. SpellsMaybe (Spells a) vs.0 ts us) (maybe_spelled (spelled a) vs.0) (spelled g vs.1) rest part, valid_spells g vs.1 rest b.1)
valid_spells (either a c g) vs rest e =
    let b = and_parts (one_valid (valid a) (valid c) vs.0) (valid g vs.1) e in
    let us = spelled g vs.1 ++ rest in
    let part = one_spells (Spells a) (Spells c) (valid a) (valid c) (spelled a) (spelled c) vs.0 us (λ x h. valid_spells a x us h) (λ x h. valid_spells c x us h) b.0 in
    (us, grouped (λ ts. SpellsOne (Spells a) (Spells c) vs.0 ts us) (one_spelled (spelled a) (spelled c) vs.0) (spelled g vs.1) rest part, valid_spells g vs.1 rest b.1)
valid_spells (numbers g) vs rest e =
    let b = and_parts (is_some_list vs.0) (valid g vs.1) e in
    let us = spelled g vs.1 ++ rest in
    (us, grouped (λ ts. SpellsNumbers vs.0 ts us) (numbers_spelled vs.0) (spelled g vs.1) rest (numbers_spells vs.0 us b.0), valid_spells g vs.1 rest b.1)
valid_spells (sign c g) vs rest e =
    let b = and_parts (not (c == 44)) (valid g vs) e in
    (spelled g vs ++ rest, refl, b.0, valid_spells g vs rest b.1)
valid_spells (many k a g) vs rest e =
    let b = and_parts (list_all (valid a) vs.0) (valid g vs.1) e in
    let us = spelled g vs.1 ++ rest in
    let part = many_spells k (Spells a) (valid a) (spelled a) vs.0 us (λ x ws h. valid_spells a x ws h) b.0 in
    (us, grouped (λ ts. SpellsMany (SpellsBehind k (Spells a)) vs.0 ts us) (many_spelled k (spelled a) vs.0) (spelled g vs.1) rest part, valid_spells g vs.1 rest b.1)

-- a letter stays a letter in capitals
word_byte_raised : (c : ℕ) → is_word_byte c ≡ true → is_word_byte (to_ascii_uppercase c) ≡ true
word_byte_raised c h = grind (arith, nat_tests)

word_raised : (w : List ℕ) → list_all is_word_byte w ≡ true → list_all is_word_byte (capitals w) ≡ true
word_raised [] h = refl
word_raised (c ∷ cs) h =
    let b = and_parts (is_word_byte c) (list_all is_word_byte cs) h in
    and_from (is_word_byte (to_ascii_uppercase c)) (list_all is_word_byte (capitals cs)) (word_byte_raised c b.0) (word_raised cs b.1)

capitals-capitals : (w : List ℕ) → capitals (capitals w) ≡ capitals w
capitals-capitals [] = refl
capitals-capitals (c ∷ cs) = rw (uppercase-uppercase c, capitals-capitals cs) refl

tag_raised : (w : List ℕ) → is_tag w ≡ true → is_capital_tag (capitals w) ≡ true
tag_raised w e =
    let b = and_parts (nat_le 1 (length w) && nat_le (length w) 30) (list_all is_word_byte w) e in
    let same = (bytes_eq-Decides (capitals w) (capitals (capitals w))).1 (sym (capitals-capitals w)) in
    and_from (is_tag (capitals w)) (bytes_eq (capitals w) (capitals (capitals w))) (rw (length-map w to_ascii_uppercase) (rw b.0 (word_raised w b.1))) same

spells_name : (u : Token) (w : List ℕ) → IsName u w → is_capital_tag w ≡ true
spells_name (Word m) w h = subst (λ v. is_capital_tag v ≡ true) (sym h.1) (tag_raised m h.0)
spells_name (Quoted m) w h = subst (λ v. is_capital_tag v ≡ true) (sym h.1) (tag_raised m h.0)
spells_name (Number m) w h = absurd h
spells_name (Sign m) w h = absurd h
spells_name Bad w h = absurd h

spells_or : (k : List ℕ) (d n : ℕ) (p : ℕ → Bool) (ts us : List Token) → SpellsNumberOr k d p n ts us → (p n || (n == d)) ≡ true
spells_or k d n p ts us (inl h) = or_left (p n) (n == d) h.3
spells_or k d n p ts us (inr h) = or_right (p n) (n == d) (eq-eqb n d h.1)

spells_maybe : {A : Type 0} (spells : A → List Token → List Token → Type 0) (test : A → Bool) (v : Option A) (ts us : List Token)
    → ((x : A) → spells x ts us → test x ≡ true) → SpellsMaybe spells v ts us → maybe_valid test v ≡ true
spells_maybe spells test (Some x) ts us go h = go x h
spells_maybe spells test None ts us go h = refl

spells_one : {A B : Type 0} (one : A → List Token → List Token → Type 0) (other : B → List Token → List Token → Type 0) (test : A → Bool) (test' : B → Bool)
    (v : Choice A B) (ts us : List Token) → ((x : A) → one x ts us → test x ≡ true) → ((x : B) → other x ts us → test' x ≡ true)
    → SpellsOne one other v ts us → one_valid test test' v ≡ true
spells_one one other test test' (first x) ts us go to h = go x h
spells_one one other test test' (second x) ts us go to h = to x h

spells_numbers : (ns : List ℕ) (ts us : List Token) → SpellsNumbers ns ts us → is_some_list ns ≡ true
spells_numbers [] ts us h = absurd h
spells_numbers (n ∷ ns) ts us h = refl

spells_many : {A : Type 0} (k : List ℕ) (spells : A → List Token → List Token → Type 0) (test : A → Bool) (xs : List A) (ts us : List Token)
    → ((x : A) (vs ws : List Token) → spells x vs ws → test x ≡ true) → SpellsMany (SpellsBehind k spells) xs ts us → list_all test xs ≡ true
spells_many k spells test [] ts us go h = refl
spells_many k spells test (x ∷ xs) ts us go h =
    and_from (test x) (list_all test xs) (go x h.1.1 h.0 h.1.4) (spells_many k spells test xs h.0 us go h.2)

-- what is spelled is valid
pub spells_valid : (g : Grammar) → AreFaithful g → (vs : Values g) (ts rest : List Token) → Spells g vs ts rest → valid g vs ≡ true
spells_valid end f vs ts rest h = refl
spells_valid semicolon f vs ts rest h = refl
spells_valid (word k g) f vs ts rest h = spells_valid g f vs h.1 rest h.4
spells_valid (flag k g) f vs ts rest h = spells_valid g f vs.1 h.0 rest h.2
spells_valid (noise k g) f vs ts rest h = spells_valid g f vs h.1 rest h.3
spells_valid (number p g) f vs ts rest h = and_from (p vs.0) (valid g vs.1) h.2 (spells_valid g f vs.1 h.0 rest h.3)
spells_valid (number_or k d p g) f vs ts rest h =
    and_from (p vs.0 || (vs.0 == d)) (valid g vs.1) (spells_or k d vs.0 p ts h.0 h.1) (spells_valid g f vs.1 h.0 rest h.2)
spells_valid (text p g) f vs ts rest h =
    and_from (is_shown p vs.0) (valid g vs.1) (same_keeps (kept_of p.read (p.show vs.0)) vs.0 (f.0 h.0 vs.0 h.3)) (spells_valid g f.1 vs.1 h.1 rest h.4)
spells_valid (tag g) f vs ts rest h = and_from (is_capital_tag vs.0) (valid g vs.1) (spells_name h.1 vs.0 h.5) (spells_valid g f vs.1 h.2 rest h.6)
spells_valid (named k g) f vs ts rest h = spells_valid g f vs h.2 rest h.5
spells_valid (optional a g) f vs ts rest h =
    let part = spells_maybe (Spells a) (valid a) vs.0 ts h.0 (λ x s. spells_valid a f.0 x ts h.0 s) h.1 in
    and_from (maybe_valid (valid a) vs.0) (valid g vs.1) part (spells_valid g f.1 vs.1 h.0 rest h.2)
spells_valid (either a b g) f vs ts rest h =
    let part = spells_one (Spells a) (Spells b) (valid a) (valid b) vs.0 ts h.0 (λ x s. spells_valid a f.0 x ts h.0 s) (λ x s. spells_valid b f.1 x ts h.0 s) h.1 in
    and_from (one_valid (valid a) (valid b) vs.0) (valid g vs.1) part (spells_valid g f.2 vs.1 h.0 rest h.2)
spells_valid (numbers g) f vs ts rest h = and_from (is_some_list vs.0) (valid g vs.1) (spells_numbers vs.0 ts h.0 h.1) (spells_valid g f vs.1 h.0 rest h.2)
spells_valid (sign c g) f vs ts rest h = and_from (not (c == 44)) (valid g vs) h.2 (spells_valid g f vs h.0 rest h.3)
spells_valid (many k a g) f vs ts rest h =
    let part = spells_many k (Spells a) (valid a) vs.0 ts h.0 (λ x us ws s. spells_valid a f.0 x us ws s) h.1 in
    and_from (list_all (valid a) vs.0) (valid g vs.1) part (spells_valid g f.1 vs.1 h.0 rest h.2)
