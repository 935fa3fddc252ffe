-- What is read is spelled so.
use Rattle.std.specs.Prelude.{IsTrue}
use Rattle.std.proofs.Common.{◌≡◌, refl, ap, sym, ◌∙◌, inl, inr, codes, subst, cond, ◌==◌, ℕ, zero, suc, ◌&&◌, not, List, [], ◌∷◌, Option, Some, None, Bool, true, false, length}
use Rattle.std.proofs.lemmas.{Option.{cond_some}, Bool.{and_parts, eqb-true}}
use Rattle.rm_lang_token.specs.{Statements.{is_word}, Spelling.{are_string_bytes}, declared.token.Token.{Token}}
use Rattle.rm_lang_token.specs.declared.token.Token.TheVariants.{Word, Number, Quoted, Sign, Bad}
use Rattle.rm_lang_grammar.specs.Grammar.{Grammar, end, semicolon, word, flag, noise, number, number_or, text, tag, named, optional, either, numbers, sign, many, SpellsMany, SpellsBehind, Choice, Values, Spells, SpellsMaybe, SpellsOne, SpellsMore, SpellsNumbers, SpellsFlag, SpellsNumberOr, IsName, is_tag, capitals, kept_of}
use Rattle.rm_lang_grammar.specs.Reading.{◌>>=◌, read, word_at, number_at, string_at, text_at, name_at, tag_at, named_at, any_word, flag_at, number_or_at, more_at, numbers_at, many_at, sign_at, with_front, rest_of, kept, maybe, one_of, begins, begins_with}

pub bind_some : {A B : Type 0} (o : Option A) (f : A → Option B) (y : B) → (o >>= f) ≡ Some y → (x : A) × (o ≡ Some x) × (f x ≡ Some y)
bind_some (Some x) f y e = (x, refl, e)
bind_some None f y e = absurd (cc)

pub some_same : {A : Type 0} {x y : A} → Some x ≡ Some y → x ≡ y
some_same e = cc

abbrev joined : {A V : Type 0} → A → V × List Token → Option ((A × V) × List Token)
joined a y = Some ((a, y.0), y.1)

last : {A V : Type 0} (o : Option (V × List Token)) (a : A) (vs : A × V) (rest : List Token)
    → (o >>= λ y. joined a y) ≡ Some (vs, rest) → (a ≡ vs.0) × (o ≡ Some (vs.1, rest))
last {A} {V} (Some y) a vs rest e =
    let p = some_same e in
    (ap (λ (z : (A × V) × List Token). z.0.0) p, ap (λ (z : (A × V) × List Token). Some (z.0.1, z.1)) p)
last None a vs rest e = absurd (cc)

-- a part, and what follows it
step : {A V : Type 0} (o : Option (A × List Token)) (rd : List Token → Option (V × List Token)) (vs : A × V) (rest : List Token)
    → (o >>= λ x. rd x.1 >>= λ y. joined x.0 y) ≡ Some (vs, rest) → (us : List Token) × (o ≡ Some (vs.0, us)) × (rd us ≡ Some (vs.1, rest))
step (Some x) rd vs rest e = let l = last (rd x.1) x.0 vs rest e in (x.1, ap (λ a. Some (a, x.1)) l.0, l.1)
step None rd vs rest e = absurd (cc)

pub word_found : (k : List ℕ) (ts us : List Token) → word_at k ts ≡ Some us → (t : Token) × (ts ≡ t ∷ us) × IsTrue (is_word k t)
word_found k [] us e = absurd (cc)
word_found k (t ∷ ts) us e = let h = cond_some (is_word k t) ts us e in (t, ap (λ xs. t ∷ xs) h.1, h.0)

pub sign_found : (c : ℕ) (ts us : List Token) → sign_at c ts ≡ Some us → (ts ≡ Sign c ∷ us) × IsTrue (not (c == 44))
sign_found c [] us e = absurd (cc)
sign_found c (Sign d ∷ ts) us e =
    let h = cond_some ((d == c) && not (c == 44)) ts us e in
    let b = and_parts (d == c) (not (c == 44)) h.0 in
    let s = eqb-true d c b.0 in ((cc), b.1)
sign_found c (Word w ∷ ts) us e = absurd (cc)
sign_found c (Number n ∷ ts) us e = absurd (cc)
sign_found c (Quoted w ∷ ts) us e = absurd (cc)
sign_found c (Bad ∷ ts) us e = absurd (cc)

pair_found : {A : Type 0} (b : Bool) (x y : A) (ts us : List Token)
    → cond {A = Option (A × List Token)} b (Some (x, ts)) None ≡ Some (y, us) → (b ≡ true) × (x ≡ y) × (ts ≡ us)
pair_found {A} b x y ts us e =
    let h = cond_some b (x, ts) (y, us) e in
    (h.0, ap (λ (z : A × List Token). z.0) h.1, ap (λ (z : A × List Token). z.1) h.1)

number_found : (p : ℕ → Bool) (ts us : List Token) (n : ℕ) → number_at p ts ≡ Some (n, us) → (ts ≡ Number n ∷ us) × IsTrue (p n)
number_found p [] us n e = absurd (cc)
number_found p (Number m ∷ ts) us n e = let h = pair_found (p m) m n ts us e in ((cc), subst (λ x. IsTrue (p x)) h.1 h.0)
number_found p (Sign c ∷ ts) us n e = absurd (cc)
number_found p (Word w ∷ ts) us n e = absurd (cc)
number_found p (Quoted w ∷ ts) us n e = absurd (cc)
number_found p (Bad ∷ ts) us n e = absurd (cc)

kept_found : (o : Option (List ℕ)) (ts us : List Token) (v : List ℕ) → kept o ts ≡ Some (v, us) → (o ≡ Some v) × (ts ≡ us)
kept_found (Some w) ts us v e = let p = some_same e in (ap (λ (z : List ℕ × List Token). Some z.0) p, ap (λ (z : List ℕ × List Token). z.1) p)
kept_found None ts us v e = absurd (cc)

string_found : (ts us : List Token) (w : List ℕ) → string_at ts ≡ Some (w, us) → (ts ≡ Quoted w ∷ us) × IsTrue (are_string_bytes w)
string_found [] us w e = absurd (cc)
string_found (Quoted v ∷ ts) us w e = let h = pair_found (are_string_bytes v) v w ts us e in ((cc), subst (λ x. IsTrue (are_string_bytes x)) h.1 h.0)
string_found (Sign c ∷ ts) us w e = absurd (cc)
string_found (Word c ∷ ts) us w e = absurd (cc)
string_found (Number c ∷ ts) us w e = absurd (cc)
string_found (Bad ∷ ts) us w e = absurd (cc)

text_found : (rd : List ℕ → Option (List ℕ)) (ts us : List Token) (v : List ℕ) → text_at rd ts ≡ Some (v, us)
    → (w : List ℕ) × (ts ≡ Quoted w ∷ us) × (kept_of rd w ≡ Some v)
text_found rd ts us v e =
    let b = bind_some (string_at ts) (λ x. kept (rd x.0) x.1) (v, us) e in
    let s = string_found ts b.0.1 b.0.0 b.1 in
    let k = kept_found (rd b.0.0) b.0.1 us v b.2 in
    (b.0.0, s.0 ∙ ap (λ xs. Quoted b.0.0 ∷ xs) k.1, rw s.1 k.0)

tag_is : (w name : List ℕ) (ts us : List Token) → kept (cond (is_tag w) (Some (capitals w)) None) ts ≡ Some (name, us)
    → IsTrue (is_tag w) × (name ≡ capitals w) × (ts ≡ us)
tag_is w name ts us e =
    let k = kept_found (cond (is_tag w) (Some (capitals w)) None) ts us name e in
    let h = cond_some (is_tag w) (capitals w) name k.0 in
    (h.0, sym h.1, k.1)

name_found : (ts us : List Token) (w : List ℕ) → name_at ts ≡ Some (w, us) → (u : Token) × (ts ≡ u ∷ us) × IsName u w
name_found [] us w e = absurd (cc)
name_found (Word m ∷ ts) us w e = let h = tag_is m w ts us e in (Word m, ap (λ xs. Word m ∷ xs) h.2, (h.0, h.1))
name_found (Quoted m ∷ ts) us w e = let h = tag_is m w ts us e in (Quoted m, ap (λ xs. Quoted m ∷ xs) h.2, (h.0, h.1))
name_found (Number m ∷ ts) us w e = absurd (cc)
name_found (Sign m ∷ ts) us w e = absurd (cc)
name_found (Bad ∷ ts) us w e = absurd (cc)

tag_found : (ts us : List Token) (w : List ℕ) → tag_at ts ≡ Some (w, us)
    → (t u : Token) × (ts ≡ t ∷ u ∷ us) × IsTrue (is_word (codes "TAG") t) × IsName u w
tag_found ts us w e =
    let b = bind_some (word_at (codes "TAG") ts) name_at (w, us) e in
    let f = word_found (codes "TAG") ts b.0 b.1 in
    let n = name_found b.0 us w b.2 in
    (f.0, n.0, f.1 ∙ ap (λ xs. f.0 ∷ xs) n.1, f.2, n.2)

begun : (k : List ℕ) (ts : List Token) → begins_with k ts ≡ true → (t : Token) × (ts ≡ t ∷ rest_of ts) × IsTrue (is_word k t)
begun k [] e = absurd (cc)
begun k (t ∷ ts) e = (t, refl, e)

abbrev flag_by : Bool → List Token → Bool × List Token
flag_by b ts = cond b (true, rest_of ts) (false, ts)

flag_found_by : (k : List ℕ) (ts : List Token) (b : Bool) → begins_with k ts ≡ b → SpellsFlag k (flag_by b ts).0 ts (flag_by b ts).1
flag_found_by k ts true e = begun k ts e
flag_found_by k ts false e = refl

flag_found : (k : List ℕ) (ts : List Token) → SpellsFlag k (flag_at k ts).0 ts (flag_at k ts).1
flag_found k ts = flag_found_by k ts (begins_with k ts) refl

number_or_by : (k : List ℕ) (d : ℕ) (p : ℕ → Bool) (ts us : List Token) (n : ℕ) (c : Bool) → begins_with k ts ≡ c
    → cond {A = Option (ℕ × List Token)} c (number_at p (rest_of ts)) (Some (d, ts)) ≡ Some (n, us) → SpellsNumberOr k d p n ts us
number_or_by k d p ts us n true t e =
    let b = begun k ts t in
    let f = number_found p (rest_of ts) us n e in
    inl (b.0, b.1 ∙ ap (λ xs. b.0 ∷ xs) f.0, b.2, f.1)
number_or_by k d p ts us n false t e =
    let same = some_same e in
    inr (ap (λ (z : ℕ × List Token). z.1) same, sym (ap (λ (z : ℕ × List Token). z.0) same))

abbrev comma_case : Bool → ℕ → ℕ → List Token → List ℕ × List Token
comma_case b c n ts = cond b (with_front n (more_at ts)) ([], Sign c ∷ Number n ∷ ts)

comma_by : (c n : ℕ) (ts : List Token) (b : Bool) → (c == 44) ≡ b → SpellsMore (more_at ts).0 ts (more_at ts).1
    → SpellsMore (comma_case b c n ts).0 (Sign c ∷ Number n ∷ ts) (comma_case b c n ts).1
comma_by c n ts true e h = (ts, ap (λ x. Sign x ∷ Number n ∷ ts) (eqb-true c 44 e), h)
comma_by c n ts false e h = refl

more_found : (ts : List Token) → SpellsMore (more_at ts).0 ts (more_at ts).1
more_found [] = refl
more_found (Word m ∷ ts) = refl
more_found (Quoted m ∷ ts) = refl
more_found (Number m ∷ ts) = refl
more_found (Bad ∷ ts) = refl
more_found (Sign c ∷ []) = refl
more_found (Sign c ∷ Word m ∷ ts) = refl
more_found (Sign c ∷ Quoted m ∷ ts) = refl
more_found (Sign c ∷ Sign m ∷ ts) = refl
more_found (Sign c ∷ Bad ∷ ts) = refl
more_found (Sign c ∷ Number n ∷ ts) = comma_by c n ts (c == 44) refl (more_found ts)

numbers_found : (ts us : List Token) (ns : List ℕ) → numbers_at ts ≡ Some (ns, us) → SpellsNumbers ns ts us
numbers_found [] us ns e = absurd (cc)
numbers_found (Number n ∷ ts) us ns e =
    subst (λ (z : List ℕ × List Token). SpellsNumbers z.0 (Number n ∷ ts) z.1) (some_same e) (ts, refl, more_found ts)
numbers_found (Word m ∷ ts) us ns e = absurd (cc)
numbers_found (Quoted m ∷ ts) us ns e = absurd (cc)
numbers_found (Sign m ∷ ts) us ns e = absurd (cc)
numbers_found (Bad ∷ ts) us ns e = absurd (cc)

maybe_found : {A : Type 0} (spells : A → List Token → List Token → Type 0) (b : Bool) (o : Option (A × List Token)) (ts us : List Token) (v : Option A)
    → ((x : A) (r : List Token) → o ≡ Some (x, r) → spells x ts r) → maybe b o ts ≡ Some (v, us) → SpellsMaybe spells v ts us
maybe_found {A} spells true (Some x) ts us v h e = subst (λ (z : Option A × List Token). SpellsMaybe spells z.0 ts z.1) (some_same e) (h x.0 x.1 refl)
maybe_found spells true None ts us v h e = absurd (cc)
maybe_found {A} spells false o ts us v h e = subst (λ (z : Option A × List Token). SpellsMaybe spells z.0 ts z.1) (some_same e) refl

one_found : {A B : Type 0} (one : A → List Token → List Token → Type 0) (other : B → List Token → List Token → Type 0)
    (b : Bool) (o : Option (A × List Token)) (q : Option (B × List Token)) (ts us : List Token) (v : Choice A B)
    → ((x : A) (r : List Token) → o ≡ Some (x, r) → one x ts r) → ((x : B) (r : List Token) → q ≡ Some (x, r) → other x ts r)
    → one_of b o q ≡ Some (v, us) → SpellsOne one other v ts us
one_found {A} {B} one other true (Some x) q ts us v h k e = subst (λ (z : Choice A B × List Token). SpellsOne one other z.0 ts z.1) (some_same e) (h x.0 x.1 refl)
one_found one other true None q ts us v h k e = absurd (cc)
one_found {A} {B} one other false o (Some x) ts us v h k e = subst (λ (z : Choice A B × List Token). SpellsOne one other z.0 ts z.1) (some_same e) (k x.0 x.1 refl)
one_found one other false o None ts us v h k e = absurd (cc)

abbrev onto : {A : Type 0} → A → List A × List Token → Option (List A × List Token)
onto x y = Some (x ∷ y.0, y.1)

none_found : {A : Type 0} (spells : A → List Token → List Token → Type 0) (c : Bool) (ts us : List Token) (xs : List A)
    → cond {A = Option (List A × List Token)} c None (Some ([], ts)) ≡ Some (xs, us) → SpellsMany spells xs ts us
none_found spells true ts us xs e = absurd (cc)
none_found {A} spells false ts us xs e = subst (λ (z : List A × List Token). SpellsMany spells z.0 ts z.1) (some_same e) refl

some_found : {A : Type 0} (spells : A → List Token → List Token → Type 0) (r : List Token → Option (A × List Token))
    → ((x : A) (ts us : List Token) → r ts ≡ Some (x, us) → spells x ts us)
    → (c : Bool) (ts us : List Token) (xs : List A) (go : List Token → Option (List A × List Token))
    → ((vs ws : List Token) (ys : List A) → go vs ≡ Some (ys, ws) → SpellsMany spells ys vs ws)
    → cond c (r ts >>= λ x. go x.1 >>= λ y. onto x.0 y) (Some ([], ts)) ≡ Some (xs, us) → SpellsMany spells xs ts us
some_found {A} spells r h true ts us xs go k e =
    let a = bind_some (r ts) (λ x. go x.1 >>= λ y. onto x.0 y) (xs, us) e in
    let b = bind_some (go a.0.1) (λ y. onto a.0.0 y) (xs, us) a.2 in
    subst (λ (z : List A × List Token). SpellsMany spells z.0 ts z.1) (some_same b.2) (a.0.1, h a.0.0 ts a.0.1 a.1, k a.0.1 b.0.1 b.0.0 b.1)
some_found {A} spells r h false ts us xs go k e = subst (λ (z : List A × List Token). SpellsMany spells z.0 ts z.1) (some_same e) refl

pub many_found : {A : Type 0} (spells : A → List Token → List Token → Type 0) (b : List Token → Bool) (r : List Token → Option (A × List Token))
    → ((x : A) (ts us : List Token) → r ts ≡ Some (x, us) → spells x ts us)
    → (n : ℕ) (ts us : List Token) (xs : List A) → many_at b r n ts ≡ Some (xs, us) → SpellsMany spells xs ts us
many_found {A} spells b r h zero ts us xs e = none_found spells (b ts) ts us xs e
many_found {A} spells b r h (suc n) ts us xs e = some_found spells r h (b ts) ts us xs (many_at b r n) (λ vs ws ys q. many_found spells b r h n vs ws ys q) e

behind_found : (k : List ℕ) (a : Grammar) (x : Values a) (us ws : List Token) → (word_at k us >>= read a) ≡ Some (x, ws)
    → ((vs : List Token) → read a vs ≡ Some (x, ws) → Spells a x vs ws) → SpellsBehind k (Spells a) x us ws
behind_found k a x us ws e go =
    let b = bind_some (word_at k us) (read a) (x, ws) e in
    let f = word_found k us b.0 b.1 in
    (f.0, b.0, f.1, f.2, go b.0 b.2)

named_found : (k : List ℕ) (ts us : List Token) → named_at k ts ≡ Some us → (t : Token) × (w : List ℕ) × (ts ≡ t ∷ Word w ∷ us) × IsTrue (is_word k t)
named_found k ts us e =
    let b = bind_some (word_at k ts) any_word us e in
    let f = word_found k ts b.0 b.1 in
    let g = any_found b.0 us b.2 in
    (f.0, g.0, f.1 ∙ ap (λ z. f.0 ∷ z) g.1, f.2)
  where
    any_found : (ts us : List Token) → any_word ts ≡ Some us → (w : List ℕ) × (ts ≡ Word w ∷ us)
    any_found [] us e = absurd (cc)
    any_found (Word w ∷ ts) us e = (w, ap (λ z. Word w ∷ z) (some_same e))
    any_found (Number n ∷ ts) us e = absurd (cc)
    any_found (Quoted w ∷ ts) us e = absurd (cc)
    any_found (Sign c ∷ ts) us e = absurd (cc)
    any_found (Bad ∷ ts) us e = absurd (cc)

-- what is read is spelled so
pub found : (g : Grammar) (ts rest : List Token) (vs : Values g) → read g ts ≡ Some (vs, rest) → Spells g vs ts rest
found end ts rest vs e = ap (λ (z : Unit {0} × List Token). z.1) (some_same e)
found semicolon ts rest vs e =
    let b = bind_some (sign_at 59 ts) (λ (us : List Token). Some (tt, us)) (vs, rest) e in
    (sign_found 59 ts b.0 b.1).0 ∙ ap (λ (z : Unit {0} × List Token). Sign 59 ∷ z.1) (some_same b.2)
found (word k g) ts rest vs e = behind_found k g vs ts rest e (λ us q. found g us rest vs q)
found (flag k g) ts rest vs e =
    let f = flag_at k ts in
    let l = last (read g f.1) f.0 vs rest e in
    (f.1, subst (λ b. SpellsFlag k b ts f.1) l.0 (flag_found k ts), found g f.1 rest vs.1 l.1)
found (noise k g) ts rest vs e = let f = flag_at k ts in (f.0, f.1, flag_found k ts, found g f.1 rest vs e)
found (number p g) ts rest vs e =
    let s = step (number_at p ts) (read g) vs rest e in
    let f = number_found p ts s.0 vs.0 s.1 in
    (s.0, f.0, f.1, found g s.0 rest vs.1 s.2)
found (number_or k d p g) ts rest vs e =
    let s = step (number_or_at k d p ts) (read g) vs rest e in
    (s.0, number_or_by k d p ts s.0 vs.0 (begins_with k ts) refl s.1, found g s.0 rest vs.1 s.2)
found (text p g) ts rest vs e =
    let s = step (text_at p.read ts) (read g) vs rest e in
    let f = text_found p.read ts s.0 vs.0 s.1 in
    (f.0, s.0, f.1, f.2, found g s.0 rest vs.1 s.2)
found (tag g) ts rest vs e =
    let s = step (tag_at ts) (read g) vs rest e in
    let f = tag_found ts s.0 vs.0 s.1 in
    (f.0, f.1, s.0, f.2, f.3, f.4, found g s.0 rest vs.1 s.2)
found (named k g) ts rest vs e =
    let b = bind_some (named_at k ts) (read g) (vs, rest) e in
    let f = named_found k ts b.0 b.1 in
    (f.0, f.1, b.0, f.2, f.3, found g b.0 rest vs b.2)
found (optional a g) ts rest vs e =
    let s = step (maybe (begins a ts) (read a ts) ts) (read g) vs rest e in
    (s.0, maybe_found (Spells a) (begins a ts) (read a ts) ts s.0 vs.0 (λ x r h. found a ts r x h) s.1, found g s.0 rest vs.1 s.2)
found (either a b g) ts rest vs e =
    let s = step (one_of (begins a ts) (read a ts) (read b ts)) (read g) vs rest e in
    let one = one_found (Spells a) (Spells b) (begins a ts) (read a ts) (read b ts) ts s.0 vs.0 (λ x r h. found a ts r x h) (λ x r h. found b ts r x h) s.1 in
    (s.0, one, found g s.0 rest vs.1 s.2)
found (numbers g) ts rest vs e =
    let s = step (numbers_at ts) (read g) vs rest e in
    (s.0, numbers_found ts s.0 vs.0 s.1, found g s.0 rest vs.1 s.2)
found (sign c g) ts rest vs e =
    let b = bind_some (sign_at c ts) (read g) (vs, rest) e in
    let f = sign_found c ts b.0 b.1 in
    (b.0, f.0, f.1, found g b.0 rest vs b.2)
found (many k a g) ts rest vs e =
    let item = λ (us : List Token). word_at k us >>= read a in
    let s = step (many_at (begins_with k) item (length ts) ts) (read g) vs rest e in
    let items = λ (x : Values a) (us ws : List Token) (h : (word_at k us >>= read a) ≡ Some (x, ws)). behind_found k a x us ws h (λ vs i. found a vs ws x i) in
    (s.0, many_found (SpellsBehind k (Spells a)) (begins_with k) item items (length ts) ts s.0 vs.0 s.1, found g s.0 rest vs.1 s.2)
