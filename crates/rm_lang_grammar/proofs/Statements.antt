-- Which commands are statements of some forms.
use Rattle.std.proofs.Common.{◌≡◌, subst, sym, inl, inr, ℕ, zero, suc, List, [], ◌∷◌, ◌++◌, Option, Some, None, Bool, true}
use Rattle.rm_lang_token.specs.declared.token.Token.{Token}
use Rattle.rm_lang_grammar.specs.{Grammar.{Values}, Forms.{Form, IsBy, IsByOne}, Spelling.{spelled, valid, AreFaithful}}
use Rattle.rm_lang_grammar.proofs.{Found.{some_same}, Spelled.{valid_spells, spells_valid}}

-- the form at a place of the list
abbrev pub form_at : {C : Type 0} → List (Form C) → ℕ → Option (Form C)
form_at [] n = None
form_at (f ∷ fs) zero = Some f
form_at (f ∷ fs) (suc n) = form_at fs n

by_form : {C : Type 0} (fs : List (Form C)) (n : ℕ) (f : Form C) (c : C) (ts rest : List Token) → form_at fs n ≡ Some f → IsBy f c ts rest → IsByOne fs c ts rest
by_form [] n f c ts rest e h = absurd (cc)
by_form (g ∷ fs) zero f c ts rest e h = inl (subst (λ i. IsBy i c ts rest) (sym (some_same e)) h)
by_form (g ∷ fs) (suc n) f c ts rest e h = inr (by_form fs n f c ts rest e h)

-- the tokens of values that are valid are the command that these mean, by the form at this place
pub by_values : {C : Type 0} (fs : List (Form C)) (n : ℕ) (f : Form C) (vs : Values f.line) (c : C) → form_at fs n ≡ Some f → valid f.line vs ≡ true → f.meaning vs ≡ Some c
    → (rest : List Token) → IsByOne fs c (spelled f.line vs ++ rest) rest
by_values fs n f vs c e v m rest = by_form fs n f c (spelled f.line vs ++ rest) rest e (record { values = vs; spells = valid_spells f.line vs rest v; means = m })

-- the line's kinds of strings are faithful, and each command that valid values of the form mean passes the test
pub record Passes {C : Type 0} (test : C → Bool) (f : Form C) : Type 0 where
  pub are_faithful : AreFaithful f.line
  pub passed : (vs : Values f.line) (c : C) → valid f.line vs ≡ true → f.meaning vs ≡ Some c → test c ≡ true

abbrev pub AllPass : {C : Type 0} → (C → Bool) → List (Form C) → Type 0
AllPass test [] = Unit {0}
AllPass test (f ∷ fs) = Passes test f × AllPass test fs

-- a test that all forms pass is passed by each of their commands
pub passes : {C : Type 0} (test : C → Bool) (fs : List (Form C)) → AllPass test fs → (ts rest : List Token) (c : C) → IsByOne fs c ts rest → test c ≡ true
passes test [] p ts rest c h = absurd h
passes test (f ∷ fs) p ts rest c (inl h) = p.0.passed h.values c (spells_valid f.line p.0.are_faithful h.values ts rest h.spells) h.means
passes test (f ∷ fs) p ts rest c (inr h) = passes test fs p.1 ts rest c h
