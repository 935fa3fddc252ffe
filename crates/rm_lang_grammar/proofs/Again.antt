-- What is spelled is read again.
use Rattle.std.specs.Prelude.{IsTrue}
use Rattle.std.proofs.Common.{◌≡◌, refl, ap, sym, subst, inl, inr, codes, cond, arith, ◌==◌, ◌≤◌, eq-eqb, ℕ, zero, suc, List, [], ◌∷◌, Option, Some, None, Bool, true, false, length, ◌&&◌, not}
use Rattle.std.proofs.lemmas.Bool.{and_parts, not-true}
use Rattle.rm_lang_token.specs.{Statements.{is_word}, Spelling.{are_string_bytes}, declared.token.Token.{Token}}
use Rattle.rm_lang_token.specs.declared.token.Token.TheVariants.{Word, Number, Quoted, Sign, Bad}
use Rattle.rm_lang_grammar.specs.Grammar.{Grammar, end, semicolon, word, flag, noise, number, number_or, text, tag, named, optional, either, numbers, sign, many, SpellsMany, SpellsBehind, Choice, first, second, Values, Spells, SpellsMaybe, SpellsOne, SpellsMore, SpellsNumbers, SpellsFlag, SpellsNumberOr, IsName, kept_of}
use Rattle.rm_lang_grammar.specs.Reading.{◌>>=◌, read, word_at, number_at, text_at, name_at, tag_at, flag_at, number_or_at, more_at, numbers_at, many_at, sign_at, with_front, maybe, one_of, begins, begins_with}
use Rattle.rm_lang_grammar.specs.Clear.{OpensAs, Follows, firsts, unlike, apart, keyed, clear}
use Rattle.rm_lang_grammar.proofs.{Opens.{opens, opens_many, begun, not_begun, not_with}, Short.{few}}

abbrev joined : {A V : Type 0} → A → V × List Token → Option ((A × V) × List Token)
joined a y = Some ((a, y.0), y.1)

abbrev some_pair : {A : Type 0} → A → List Token → Option (A × List Token)
some_pair a ts = Some (a, ts)

-- a part, and what follows it
back : {A V : Type 0} (x : Option (A × List Token)) (rd : List Token → Option (V × List Token)) (a : A) (us : List Token) (v : V) (rest : List Token)
    → x ≡ Some (a, us) → rd us ≡ Some (v, rest) → (x >>= λ y. rd y.1 >>= λ z. joined y.0 z) ≡ Some ((a, v), rest)
back x rd a us v rest e h = rw e (rw h refl)

word_again : (k : List ℕ) (t : Token) (us : List Token) → IsTrue (is_word k t) → word_at k (t ∷ us) ≡ Some us
word_again k t us h = rw h refl

number_again : (p : ℕ → Bool) (ts us : List Token) (n : ℕ) → ts ≡ Number n ∷ us → IsTrue (p n) → number_at p ts ≡ Some (n, us)
number_again p ts us n e h = subst (λ z. number_at p z ≡ Some (n, us)) (sym e) (rw h refl)

-- what is kept is kept of a string
kept_parts : (b : Bool) (o : Option (List ℕ)) (v : List ℕ) → cond b o None ≡ Some v → (b ≡ true) × (o ≡ Some v)
kept_parts true o v e = (refl, e)
kept_parts false o v e = absurd (cc)

name_again : (u : Token) (us : List Token) (w : List ℕ) → IsName u w → name_at (u ∷ us) ≡ Some (w, us)
name_again (Word m) us w h = rw h.0 (ap (λ (z : List ℕ). some_pair z us) (sym h.1))
name_again (Quoted m) us w h = rw h.0 (ap (λ (z : List ℕ). some_pair z us) (sym h.1))
name_again (Number m) us w h = absurd h
name_again (Sign m) us w h = absurd h
name_again Bad us w h = absurd h

tag_again : (ts us : List Token) (t u : Token) (w : List ℕ) → ts ≡ t ∷ u ∷ us → IsTrue (is_word (codes "TAG") t) → IsName u w → tag_at ts ≡ Some (w, us)
tag_again ts us t u w e h n = subst (λ z. tag_at z ≡ Some (w, us)) (sym e) (rw (word_again (codes "TAG") t (u ∷ us) h) (name_again u us w n))

sign_again : (c : ℕ) (ts us : List Token) → ts ≡ Sign c ∷ us → IsTrue (not (c == 44)) → sign_at c ts ≡ Some us
sign_again c ts us e h = subst (λ z. sign_at c z ≡ Some us) (sym e) (rw (eq-eqb c c refl) (rw h refl))

flag_again : (k : List ℕ) (F : List (List ℕ)) (ts us : List Token) (b : Bool) → unlike k F ≡ true → OpensAs F us → SpellsFlag k b ts us → flag_at k ts ≡ (b, us)
flag_again k F ts us true u o h = subst (λ z. flag_at k z ≡ (true, us)) (sym h.1) (rw h.2 refl)
flag_again k F ts us false u o h = subst (λ z. flag_at k z ≡ (false, us)) (sym h) (rw (not_with k F us u o) refl)

or_again : (k : List ℕ) (d : ℕ) (p : ℕ → Bool) (F : List (List ℕ)) (ts us : List Token) (n : ℕ)
    → unlike k F ≡ true → OpensAs F us → SpellsNumberOr k d p n ts us → number_or_at k d p ts ≡ Some (n, us)
or_again k d p F ts us n u o (inl h) = subst (λ z. number_or_at k d p z ≡ Some (n, us)) (sym h.1) (rw h.2 (rw h.3 refl))
or_again k d p F ts us n u o (inr h) =
    subst (λ z. number_or_at k d p z ≡ Some (n, us)) (sym h.0) (rw (not_with k F us u o) (ap (λ (z : ℕ). some_pair z us) (sym h.1)))

-- no comma follows
more_ends : (F : List (List ℕ)) (us : List Token) → OpensAs F us → more_at us ≡ ([], us)
more_ends F [] o = refl
more_ends F (Word m ∷ ts) o = refl
more_ends F (Quoted m ∷ ts) o = refl
more_ends F (Number m ∷ ts) o = refl
more_ends F (Bad ∷ ts) o = refl
more_ends F (Sign c ∷ []) o = refl
more_ends F (Sign c ∷ Word m ∷ ts) o = refl
more_ends F (Sign c ∷ Quoted m ∷ ts) o = refl
more_ends F (Sign c ∷ Sign m ∷ ts) o = refl
more_ends F (Sign c ∷ Bad ∷ ts) o = refl
more_ends F (Sign c ∷ Number n ∷ ts) o = rw (not-true (c == 44) o) refl

more_again : (F : List (List ℕ)) (ts us : List Token) (ns : List ℕ) → OpensAs F us → SpellsMore ns ts us → more_at ts ≡ (ns, us)
more_again F ts us [] o h = subst (λ z. more_at z ≡ ([], us)) (sym h) (more_ends F us o)
more_again F ts us (n ∷ ns) o h =
    subst (λ z. more_at z ≡ (n ∷ ns, us)) (sym h.1) (ap (λ (z : List ℕ × List Token). with_front n z) (more_again F h.0 us ns o h.2))

numbers_again : (F : List (List ℕ)) (ts us : List Token) (ns : List ℕ) → OpensAs F us → SpellsNumbers ns ts us → numbers_at ts ≡ Some (ns, us)
numbers_again F ts us [] o h = absurd h
numbers_again F ts us (n ∷ ns) o h =
    subst (λ z. numbers_at z ≡ Some (n ∷ ns, us)) (sym h.1) (ap (λ (z : List ℕ × List Token). some_pair (n ∷ z.0) z.1) (more_again F h.0 us ns o h.2))

maybe_again : (a : Grammar) (F : List (List ℕ)) (v : Option (Values a)) (ts us : List Token) → keyed a ≡ true → apart (firsts a F) F ≡ true → OpensAs F us
    → SpellsMaybe (Spells a) v ts us → ((x : Values a) → Spells a x ts us → read a ts ≡ Some (x, us)) → maybe (begins a ts) (read a ts) ts ≡ Some (v, us)
maybe_again a F (Some x) ts us k p o h r = rw (begun a x ts us k h) (rw (r x h) refl)
maybe_again a F None ts us k p o h r = subst (λ z. maybe (begins a z) (read a z) z ≡ Some (None, us)) (sym h) (rw (not_begun a F F us p o) refl)

one_again : (a b : Grammar) (F : List (List ℕ)) (v : Choice (Values a) (Values b)) (ts us : List Token) → keyed a ≡ true → apart (firsts a F) (firsts b F) ≡ true → OpensAs F us
    → SpellsOne (Spells a) (Spells b) v ts us → ((x : Values a) → Spells a x ts us → read a ts ≡ Some (x, us)) → ((x : Values b) → Spells b x ts us → read b ts ≡ Some (x, us))
    → one_of (begins a ts) (read a ts) (read b ts) ≡ Some (v, us)
one_again a b F (first x) ts us k p o h r s = rw (begun a x ts us k h) (rw (r x h) refl)
one_again a b F (second x) ts us k p o h r s = rw (not_begun a F (firsts b F) ts p (opens b F x ts us (inr o) h)) (rw (s x h) refl)

-- as many steps as items
many_again : {A : Type 0} (k : List ℕ) (spells : A → List Token → List Token → Type 0) (r : List Token → Option (A × List Token)) (F : List (List ℕ)) (xs : List A) (n : ℕ) (ts us : List Token)
    → unlike k F ≡ true → OpensAs F us → length xs ≤ n → SpellsMany (SpellsBehind k spells) xs ts us
    → ((x : A) (t : Token) (vs ws : List Token) (ys : List A) → IsTrue (is_word k t) → spells x vs ws → SpellsMany (SpellsBehind k spells) ys ws us → r (t ∷ vs) ≡ Some (x, ws))
    → many_at (begins_with k) r n ts ≡ Some (xs, us)
many_again k spells r F [] zero ts us u o l h go = subst (λ z. many_at (begins_with k) r zero z ≡ Some ([], us)) (sym h) (rw (not_with k F us u o) refl)
many_again k spells r F [] (suc n) ts us u o l h go = subst (λ z. many_at (begins_with k) r (suc n) z ≡ Some ([], us)) (sym h) (rw (not_with k F us u o) refl)
many_again k spells r F (x ∷ xs) zero ts us u o l h go = absurd (grind arith)
many_again k spells r F (x ∷ xs) (suc n) ts us u o l h go =
    let i = h.1 in
    subst (λ z. many_at (begins_with k) r (suc n) z ≡ Some (x ∷ xs, us)) (sym i.2)
    (rw i.3 (rw (go x i.0 i.1 h.0 xs i.3 i.4 h.2) (rw (many_again k spells r F xs n h.0 us u o (grind arith) h.2 go) refl)))

text_again : (rd : List ℕ → Option (List ℕ)) (ts us : List Token) (w v : List ℕ) → ts ≡ Quoted w ∷ us → kept_of rd w ≡ Some v → text_at rd ts ≡ Some (v, us)
text_again rd ts us w v e h =
    let k = kept_parts (are_string_bytes w) (rd w) v h in
    subst (λ z. text_at rd z ≡ Some (v, us)) (sym e) (rw k.0 (rw k.1 refl))

-- what is spelled in a clear line is read, where the words of F may stand behind it
pub again : (g : Grammar) (F : List (List ℕ)) → clear g F ≡ true → (vs : Values g) (ts rest : List Token) → Follows g F rest → Spells g vs ts rest → read g ts ≡ Some (vs, rest)
again end F c vs ts rest o h = ap (λ (z : List Token). some_pair tt z) h
again semicolon F c vs ts rest o h = subst (λ z. read semicolon z ≡ Some (vs, rest)) (sym h) refl
again (word k g) F c vs ts rest o h = subst (λ z. read (word k g) z ≡ Some (vs, rest)) (sym h.2) (rw (word_again k h.0 h.1 h.3) (again g F c vs h.1 rest o h.4))
again (flag k g) F c vs ts rest o h =
    let b = and_parts (unlike k (firsts g F)) (clear g F) c in
    let f = flag_again k (firsts g F) ts h.0 vs.0 b.0 (opens g F vs.1 h.0 rest o h.2) h.1 in
    subst (λ (z : Bool × List Token). (read g z.1 >>= λ y. joined z.0 y) ≡ Some (vs, rest)) (sym f) (rw (again g F b.1 vs.1 h.0 rest o h.2) refl)
again (noise k g) F c vs ts rest o h =
    let b = and_parts (unlike k (firsts g F)) (clear g F) c in
    let f = flag_again k (firsts g F) ts h.1 h.0 b.0 (opens g F vs h.1 rest o h.3) h.2 in
    subst (λ (z : Bool × List Token). read g z.1 ≡ Some (vs, rest)) (sym f) (again g F b.1 vs h.1 rest o h.3)
again (number p g) F c vs ts rest o h = back (number_at p ts) (read g) vs.0 h.0 vs.1 rest (number_again p ts h.0 vs.0 h.1 h.2) (again g F c vs.1 h.0 rest o h.3)
again (number_or k d p g) F c vs ts rest o h =
    let b = and_parts (unlike k (firsts g F)) (clear g F) c in
    let n = or_again k d p (firsts g F) ts h.0 vs.0 b.0 (opens g F vs.1 h.0 rest o h.2) h.1 in
    back (number_or_at k d p ts) (read g) vs.0 h.0 vs.1 rest n (again g F b.1 vs.1 h.0 rest o h.2)
again (text p g) F c vs ts rest o h =
    back (text_at p.read ts) (read g) vs.0 h.1 vs.1 rest (text_again p.read ts h.1 h.0 vs.0 h.2 h.3) (again g F c vs.1 h.1 rest o h.4)
again (tag g) F c vs ts rest o h = back (tag_at ts) (read g) vs.0 h.2 vs.1 rest (tag_again ts h.2 h.0 h.1 vs.0 h.3 h.4 h.5) (again g F c vs.1 h.2 rest o h.6)
again (named k g) F c vs ts rest o h = subst (λ z. read (named k g) z ≡ Some (vs, rest)) (sym h.3) (rw (word_again k h.0 (Word h.1 ∷ h.2) h.4) (again g F c vs h.2 rest o h.5))
again (optional a g) F c vs ts rest o h =
    let G = firsts g F in
    let b = and_parts (keyed a && apart (firsts a G) G) (clear a G && clear g F) c in
    let k = and_parts (keyed a) (apart (firsts a G) G) b.0 in
    let l = and_parts (clear a G) (clear g F) b.1 in
    let q = opens g F vs.1 h.0 rest o h.2 in
    let part = maybe_again a G vs.0 ts h.0 k.0 k.1 q h.1 (λ x s. again a G l.0 x ts h.0 (inr q) s) in
    back (maybe (begins a ts) (read a ts) ts) (read g) vs.0 h.0 vs.1 rest part (again g F l.1 vs.1 h.0 rest o h.2)
again (either a b g) F c vs ts rest o h =
    let G = firsts g F in
    let t = and_parts (keyed a && apart (firsts a G) (firsts b G)) (clear a G && (clear b G && clear g F)) c in
    let k = and_parts (keyed a) (apart (firsts a G) (firsts b G)) t.0 in
    let l = and_parts (clear a G) (clear b G && clear g F) t.1 in
    let m = and_parts (clear b G) (clear g F) l.1 in
    let q = opens g F vs.1 h.0 rest o h.2 in
    let part = one_again a b G vs.0 ts h.0 k.0 k.1 q h.1 (λ x s. again a G l.0 x ts h.0 (inr q) s) (λ x s. again b G m.0 x ts h.0 (inr q) s) in
    back (one_of (begins a ts) (read a ts) (read b ts)) (read g) vs.0 h.0 vs.1 rest part (again g F m.1 vs.1 h.0 rest o h.2)
again (numbers g) F c vs ts rest o h =
    let part = numbers_again (firsts g F) ts h.0 vs.0 (opens g F vs.1 h.0 rest o h.2) h.1 in
    back (numbers_at ts) (read g) vs.0 h.0 vs.1 rest part (again g F c vs.1 h.0 rest o h.2)
again (sign c g) F k vs ts rest o h = subst (λ z. (z >>= read g) ≡ Some (vs, rest)) (sym (sign_again c ts h.0 h.1 h.2)) (again g F k vs h.0 rest o h.3)
again (many k a g) F c vs ts rest o h =
    let G = firsts g F in
    let t = and_parts (unlike k G) (clear a (k ∷ G) && clear g F) c in
    let l = and_parts (clear a (k ∷ G)) (clear g F) t.1 in
    let q = opens g F vs.1 h.0 rest o h.2 in
    let part = many_again k (Spells a) (λ us. word_at k us >>= read a) G vs.0 (length ts) ts h.0 t.0 q (few k a vs.0 ts h.0 h.1) h.1
    (λ x w us ws ys p s m. rw (word_again k w us p) (again a (k ∷ G) l.0 x us ws (inr (opens_many k (Spells a) G ys ws h.0 q m)) s)) in
    back (many_at (begins_with k) (λ us. word_at k us >>= read a) (length ts) ts) (read g) vs.0 h.0 vs.1 rest part (again g F l.1 vs.1 h.0 rest o h.2)
