-- Commands that are a part of something else, and the words that no form begins with.
use Rattle.std.proofs.Common.{◌≡◌, refl, ap, subst, ◌∙◌, inl, inr, List, [], ◌∷◌, Option, Some, None, Bool, true, false, ℕ, ◌&&◌, map}
use Rattle.std.proofs.lemmas.Bool.{and_parts}
use Rattle.rm_lang_token.specs.declared.token.Token.{Token}
use Rattle.rm_lang_grammar.specs.{Reading.{◌>>=◌, read, begins_with}, Clear.{firsts, unlike}}
use Rattle.rm_lang_grammar.specs.Forms.{Form, IsByOne, meant, command_by, command_in, or_else, as_form, are_apart}
use Rattle.rm_lang_grammar.proofs.{Found.{bind_some, some_same}, Forms.{apart_parts}, Opens.{opens, not_with}, Statements.{AllPass}}

-- the same with what the command is a part of
abbrev pub within : {C D : Type 0} → (C → D) → C × List Token → Option (D × List Token)
within g x = Some (g x.0, x.1)

some_as : {C D : Type 0} (g : C → D) (o : Option C) (us : List Token)
    → (o >>= (λ c. Some (g c)) >>= (λ d. Some (d, us))) ≡ (o >>= (λ c. Some (c, us)) >>= within g)
some_as g (Some c) us = refl
some_as g None us = refl

meant_as : {V C D : Type 0} (g : C → D) (m : V → Option C) (o : Option (V × List Token))
    → (o >>= meant (λ v. m v >>= λ c. Some (g c))) ≡ (o >>= meant m >>= within g)
meant_as g m (Some x) = some_as g (m x.0) x.1
meant_as g m None = refl

or_as : {C D : Type 0} (g : C → D) (a b : Option (C × List Token)) → or_else (a >>= within g) (b >>= within g) ≡ (or_else a b >>= within g)
or_as g (Some x) b = refl
or_as g None b = refl

-- the command that the forms read, as a part
pub in_as : {C D : Type 0} (g : C → D) (fs : List (Form C)) (ts : List Token) → command_in (map (as_form g) fs) ts ≡ (command_in fs ts >>= within g)
in_as g [] ts = refl
in_as {C} {D} g (f ∷ fs) ts =
    ap (λ (o : Option (D × List Token)). or_else (command_by (as_form g f) ts) o) (in_as g fs ts)
    ∙ (ap (λ (o : Option (D × List Token)). or_else o (command_in fs ts >>= within g)) (meant_as g f.meaning (read f.line ts)) ∙ or_as g (command_by f ts) (command_in fs ts))

-- a command by one of the forms is a part by one of the same
pub one_as : {C D : Type 0} (g : C → D) (fs : List (Form C)) (c : C) (ts rest : List Token) → IsByOne fs c ts rest → IsByOne (map (as_form g) fs) (g c) ts rest
one_as g [] c ts rest h = absurd h
one_as g (f ∷ fs) c ts rest (inl h) = inl (record { values = h.values; spells = h.spells; means = rw h.means refl })
one_as g (f ∷ fs) c ts rest (inr h) = inr (one_as g fs c ts rest h)

-- a test that all forms pass is passed by what they are parts of
pub pass_as : {C D : Type 0} (g : C → D) (test : C → Bool) (whole : D → Bool) (fs : List (Form C)) → ((c : C) → test c ≡ true → whole (g c) ≡ true) → AllPass test fs → AllPass whole (map (as_form g) fs)
pass_as g test whole [] go p = tt
pass_as {C} {D} g test whole (f ∷ fs) go p = (
  record {
    are_faithful = p.0.are_faithful;
    passed = λ vs d v m.
        let b = bind_some (f.meaning vs) (λ (c : C). Some (g c)) d m in
        subst (λ e. whole e ≡ true) (some_same b.2) (go b.0 (p.0.passed vs b.0 v b.1));
  },
  pass_as g test whole fs go p.1,
)

-- no line begins with the word
abbrev pub are_unlike : {C : Type 0} → List ℕ → List (Form C) → Bool
are_unlike k [] = true
are_unlike k (f ∷ fs) = unlike k (firsts f.line []) && are_unlike k fs

pub none_begins : {C : Type 0} (k : List ℕ) (fs : List (Form C)) (c : C) (ts rest : List Token) → are_apart fs ≡ true → are_unlike k fs ≡ true → IsByOne fs c ts rest → begins_with k ts ≡ false
none_begins k [] c ts rest a u h = absurd h
none_begins k (f ∷ fs) c ts rest a u (inl h) =
    not_with k (firsts f.line []) ts (and_parts (unlike k (firsts f.line [])) (are_unlike k fs) u).0 (opens f.line [] h.values ts rest (inl (apart_parts f fs a).is_closed) h.spells)
none_begins k (f ∷ fs) c ts rest a u (inr h) = none_begins k fs c ts rest (apart_parts f fs a).others (and_parts (unlike k (firsts f.line [])) (are_unlike k fs) u).1 h
