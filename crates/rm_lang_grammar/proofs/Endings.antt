-- Where a statement ends whose tokens are spelled.
use Rattle.std.specs.List.{list_all}
use Rattle.std.proofs.Common.{◌≡◌, refl, sym, subst, codes, cond, ◌==◌, ◌&&◌, ◌||◌, not, if◌then◌else◌, ℕ, List, [], ◌∷◌, ◌++◌, Option, Some, None, Bool, true, false, length}
use Rattle.std.proofs.lemmas.Bool.{and_parts, not-true, eqb-true, eq-eqb, cond_both}
use Rattle.rm_lang_token.specs.{Statements.{is_word, depth_after}, Spelling.{ends_with, is_statement}, declared.token.Token.{Token}}
use Rattle.rm_lang_token.specs.declared.token.Token.TheVariants.{Word, Number, Quoted, Sign, Bad}
use Rattle.rm_lang_grammar.specs.Grammar.{Grammar, end, semicolon, word, flag, noise, number, number_or, text, tag, named, optional, either, numbers, sign, many, Choice, first, second, Values}
use Rattle.rm_lang_grammar.specs.Spelling.{spelled, flag_spelled, number_or_spelled, maybe_spelled, one_spelled, more_spelled, numbers_spelled, many_spelled}
use Rattle.rm_lang_grammar.specs.Endings.{stops, quiet}

-- where so many braces are open, no statement ends among the tokens, and so many are open behind them; or, at None, it ends at the last of them
abbrev pub arrives : Bool → ℕ → Option ℕ → List Token → Bool
arrives run d None [] = false
arrives run d (Some e) [] = d == e
arrives run d None (t ∷ ts) = if stops run d t then length ts == 0 else arrives run (depth_after d t) None ts
arrives run d (Some e) (t ∷ ts) = not (stops run d t) && arrives run (depth_after d t) (Some e) ts

one_more : (run : Bool) (d : ℕ) (goal : Option ℕ) (t : Token) (ts : List Token) → stops run d t ≡ false → arrives run (depth_after d t) goal ts ≡ true → arrives run d goal (t ∷ ts) ≡ true
one_more run d None t ts s h = rw s h
one_more run d (Some e) t ts s h = rw s h

-- tokens behind others
pub join : (run : Bool) (d e : ℕ) (goal : Option ℕ) (xs ys : List Token) → arrives run d (Some e) xs ≡ true → arrives run e goal ys ≡ true → arrives run d goal (xs ++ ys) ≡ true
join run d e goal [] ys h k = subst (λ n. arrives run n goal ys ≡ true) (sym (eqb-true d e h)) k
join run d e goal (x ∷ xs) ys h k =
    let b = and_parts (not (stops run d x)) (arrives run (depth_after d x) (Some e) xs) h in
    one_more run d goal x (xs ++ ys) (not-true (stops run d x) b.0) (join run (depth_after d x) e goal xs ys b.1 k)

-- no sign but the comma
abbrev is_calm : Token → Bool
is_calm (Sign c) = c == 44
is_calm t = true

never : (a b run : Bool) → ((a && false) || (run && b && false)) ≡ false
never true true true = refl
never true true false = refl
never true false true = refl
never true false false = refl
never false true true = refl
never false true false = refl
never false false true = refl
never false false false = refl

calm_stop : (run : Bool) (d : ℕ) (t : Token) → is_calm t ≡ true → stops run d t ≡ false
calm_stop run d (Word w) h = never (d == 0) (d == 1) run
calm_stop run d (Number n) h = never (d == 0) (d == 1) run
calm_stop run d (Quoted w) h = never (d == 0) (d == 1) run
calm_stop run d (Sign c) h = subst (λ s. stops run d (Sign s) ≡ false) (sym (eqb-true c 44 h)) (never (d == 0) (d == 1) run)
calm_stop run d Bad h = never (d == 0) (d == 1) run

calm_depth : (d : ℕ) (t : Token) → is_calm t ≡ true → depth_after d t ≡ d
calm_depth d (Word w) h = refl
calm_depth d (Number n) h = refl
calm_depth d (Quoted w) h = refl
calm_depth d (Sign c) h = subst (λ s. depth_after d (Sign s) ≡ d) (sym (eqb-true c 44 h)) refl
calm_depth d Bad h = refl

calm_more : (run : Bool) (d : ℕ) (goal : Option ℕ) (t : Token) (ts : List Token) → is_calm t ≡ true → arrives run d goal ts ≡ true → arrives run d goal (t ∷ ts) ≡ true
calm_more run d goal t ts c h = one_more run d goal t ts (calm_stop run d t c) (rw (calm_depth d t c) h)

same_depth : (d : ℕ) → (d == d) ≡ true
same_depth d = eq-eqb d d refl

calm_all : (run : Bool) (d : ℕ) (ts : List Token) → list_all is_calm ts ≡ true → arrives run d (Some d) ts ≡ true
calm_all run d [] h = same_depth d
calm_all run d (t ∷ ts) h =
    let b = and_parts (is_calm t) (list_all is_calm ts) h in
    calm_more run d (Some d) t ts b.0 (calm_all run d ts b.1)

flag_calm : (k : List ℕ) (b : Bool) → list_all is_calm (flag_spelled k b) ≡ true
flag_calm k true = refl
flag_calm k false = refl

or_calm : (k : List ℕ) (d n : ℕ) → list_all is_calm (number_or_spelled k d n) ≡ true
or_calm k d n = cond_both (n == d) [] (Word k ∷ Number n ∷ []) (λ ts. list_all is_calm ts ≡ true) (λ h. refl) (λ h. refl)

more_calm : (ns : List ℕ) → list_all is_calm (more_spelled ns) ≡ true
more_calm [] = refl
more_calm (n ∷ ns) = more_calm ns

numbers_calm : (ns : List ℕ) → list_all is_calm (numbers_spelled ns) ≡ true
numbers_calm [] = refl
numbers_calm (n ∷ ns) = more_calm ns

maybe_arrives : {A : Type 0} (run : Bool) (d : ℕ) (spell : A → List Token) (v : Option A) → ((x : A) → arrives run d (Some d) (spell x) ≡ true) → arrives run d (Some d) (maybe_spelled spell v) ≡ true
maybe_arrives run d spell (Some x) h = h x
maybe_arrives run d spell None h = same_depth d

one_arrives : {A B : Type 0} (run : Bool) (d : ℕ) (one : A → List Token) (other : B → List Token) (v : Choice A B) → ((x : A) → arrives run d (Some d) (one x) ≡ true)
    → ((x : B) → arrives run d (Some d) (other x) ≡ true) → arrives run d (Some d) (one_spelled one other v) ≡ true
one_arrives run d one other (first x) h k = h x
one_arrives run d one other (second x) h k = k x

many_arrives : {A : Type 0} (run : Bool) (d : ℕ) (k : List ℕ) (spell : A → List Token) (vs : List A) → ((x : A) → arrives run d (Some d) (spell x) ≡ true) → arrives run d (Some d) (many_spelled k spell vs) ≡ true
many_arrives run d k spell [] h = same_depth d
many_arrives run d k spell (v ∷ vs) h = calm_more run d (Some d) (Word k) (spell v ++ many_spelled k spell vs) refl (join run d d (Some d) (spell v) (many_spelled k spell vs) (h v) (many_arrives run d k spell vs h))

semicolon_arrives : (run : Bool) (d : ℕ) (goal : Option ℕ) → quiet run semicolon d goal ≡ true → arrives run d goal (Sign 59 ∷ []) ≡ true
semicolon_arrives run d None h = rw h refl
semicolon_arrives run d (Some e) h = h

end_arrives : (run : Bool) (d : ℕ) (goal : Option ℕ) → quiet run end d goal ≡ true → arrives run d goal [] ≡ true
end_arrives run d None h = h
end_arrives run d (Some e) h = h

-- the tokens of a quiet line
pub quiet_arrives : (run : Bool) (g : Grammar) (d : ℕ) (goal : Option ℕ) (vs : Values g) → quiet run g d goal ≡ true → arrives run d goal (spelled g vs) ≡ true
quiet_arrives run end d goal vs h = end_arrives run d goal h
quiet_arrives run semicolon d goal vs h = semicolon_arrives run d goal h
quiet_arrives run (word k g) d goal vs h = calm_more run d goal (Word k) (spelled g vs) refl (quiet_arrives run g d goal vs h)
quiet_arrives run (flag k g) d goal vs h = join run d d goal (flag_spelled k vs.0) (spelled g vs.1) (calm_all run d (flag_spelled k vs.0) (flag_calm k vs.0)) (quiet_arrives run g d goal vs.1 h)
quiet_arrives run (noise k g) d goal vs h = quiet_arrives run g d goal vs h
quiet_arrives run (number p g) d goal vs h = calm_more run d goal (Number vs.0) (spelled g vs.1) refl (quiet_arrives run g d goal vs.1 h)
quiet_arrives run (number_or k n p g) d goal vs h =
    join run d d goal (number_or_spelled k n vs.0) (spelled g vs.1) (calm_all run d (number_or_spelled k n vs.0) (or_calm k n vs.0)) (quiet_arrives run g d goal vs.1 h)
quiet_arrives run (text p g) d goal vs h = calm_more run d goal (Quoted (p.show vs.0)) (spelled g vs.1) refl (quiet_arrives run g d goal vs.1 h)
quiet_arrives run (tag g) d goal vs h =
    calm_more run d goal (Word (codes "TAG")) (Quoted vs.0 ∷ spelled g vs.1) refl (calm_more run d goal (Quoted vs.0) (spelled g vs.1) refl (quiet_arrives run g d goal vs.1 h))
quiet_arrives run (named k g) d goal vs h =
    calm_more run d goal (Word k) (Word (codes "C") ∷ spelled g vs) refl (calm_more run d goal (Word (codes "C")) (spelled g vs) refl (quiet_arrives run g d goal vs h))
quiet_arrives run (optional a g) d goal vs h =
    let b = and_parts (quiet run a d (Some d)) (quiet run g d goal) h in
    join run d d goal (maybe_spelled (spelled a) vs.0) (spelled g vs.1) (maybe_arrives run d (spelled a) vs.0 (λ x. quiet_arrives run a d (Some d) x b.0)) (quiet_arrives run g d goal vs.1 b.1)
quiet_arrives run (either a c g) d goal vs h =
    let b = and_parts (quiet run a d (Some d)) (quiet run c d (Some d) && quiet run g d goal) h in
    let e = and_parts (quiet run c d (Some d)) (quiet run g d goal) b.1 in
    join run d d goal (one_spelled (spelled a) (spelled c) vs.0) (spelled g vs.1)
    (one_arrives run d (spelled a) (spelled c) vs.0 (λ x. quiet_arrives run a d (Some d) x b.0) (λ x. quiet_arrives run c d (Some d) x e.0)) (quiet_arrives run g d goal vs.1 e.1)
quiet_arrives run (numbers g) d goal vs h = join run d d goal (numbers_spelled vs.0) (spelled g vs.1) (calm_all run d (numbers_spelled vs.0) (numbers_calm vs.0)) (quiet_arrives run g d goal vs.1 h)
quiet_arrives run (sign c g) d goal vs h =
    let b = and_parts (not (stops run d (Sign c))) (quiet run g (depth_after d (Sign c)) goal) h in
    one_more run d goal (Sign c) (spelled g vs) (not-true (stops run d (Sign c)) b.0) (quiet_arrives run g (depth_after d (Sign c)) goal vs b.1)
quiet_arrives run (many k a g) d goal vs h =
    let b = and_parts (quiet run a d (Some d)) (quiet run g d goal) h in
    join run d d goal (many_spelled k (spelled a) vs.0) (spelled g vs.1) (many_arrives run d k (spelled a) vs.0 (λ x. quiet_arrives run a d (Some d) x b.0)) (quiet_arrives run g d goal vs.1 b.1)

-- tokens that arrive at an end, with a word in front, are a statement
ends : (front : Token) (fs : List Token) (d : ℕ) (ts : List Token) → arrives (is_word (codes "RUN") front) d None ts ≡ true → ends_with (front ∷ fs) d ts ≡ true
ends front fs d [] h = h
ends front fs d (t ∷ ts) h = by_stop (stops (is_word (codes "RUN") front) d t) (length ts == 0) (arrives (is_word (codes "RUN") front) (depth_after d t) None ts) (ends_with (front ∷ (fs ++ t ∷ [])) (depth_after d t) ts) h (λ k. ends front (fs ++ t ∷ []) (depth_after d t) ts k)
  where
    by_stop : (s a b c : Bool) → cond s a b ≡ true → (b ≡ true → c ≡ true) → cond s a c ≡ true
    by_stop true a b c e k = e
    by_stop false a b c e k = k e

pub is_one_statement : (w : List ℕ) (ts : List Token) → arrives (is_word (codes "RUN") (Word w)) 0 None ts ≡ true → is_statement (Word w ∷ ts) ≡ true
is_one_statement w ts h = ends (Word w) [] 0 ts h

-- a line that begins with a word other than RUN, in which a statement ends at the last token alone
abbrev pub starts_quietly : Grammar → Bool
starts_quietly (word k g) = not (is_word (codes "RUN") (Word k)) && quiet false g 0 None
starts_quietly g = false

pub line_statement : (g : Grammar) (vs : Values g) → starts_quietly g ≡ true → is_statement (spelled g vs) ≡ true
line_statement (word k g) vs h =
    let b = and_parts (not (is_word (codes "RUN") (Word k))) (quiet false g 0 None) h in
    let plain = not-true (is_word (codes "RUN") (Word k)) b.0 in
    is_one_statement k (spelled g vs) (subst (λ run. arrives run 0 None (spelled g vs) ≡ true) (sym plain) (quiet_arrives false g 0 None vs b.1))
line_statement g vs h = absurd (cc)
