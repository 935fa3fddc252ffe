-- What the forms read is exactly what they spell, and one command at the front of each token list.
use Rattle.std.proofs.{Common.{◌≡◌, refl, ap, sym, ◌∙◌, inl, inr, List, [], ◌∷◌, Option, Some, None, true, ◌&&◌}, lemmas.Bool.{and_parts}}
use Rattle.rm_lang_token.specs.declared.token.Token.{Token}
use Rattle.rm_lang_grammar.specs.{Grammar.{Grammar, Values, Spells}, Clear.{clear, closed}, Differ.{differ}, Reading.{read}}
use Rattle.rm_lang_grammar.specs.Forms.{Form, IsBy, IsByOne, meant, command_by, command_in, or_else, differs_from, are_apart}
use Rattle.rm_lang_grammar.proofs.{Found.{found, bind_some, some_same}, Again.{again}, Differ.{differs}}

abbrev behind : {C : Type 0} → List Token → C → Option (C × List Token)
behind ts c = Some (c, ts)

by_found : {C : Type 0} (f : Form C) (ts rest : List Token) (c : C) → command_by f ts ≡ Some (c, rest) → IsBy f c ts rest
by_found {C} f ts rest c e =
    let b = bind_some (read f.line ts) (λ x. meant f.meaning x) (c, rest) e in
    let m = bind_some (f.meaning b.0.0) (λ d. behind b.0.1 d) (c, rest) b.2 in
    let same = some_same m.2 in
    record {
      values = b.0.0;
      spells = found f.line ts rest b.0.0 (b.1 ∙ ap (λ (x : C × List Token). Some (b.0.0, x.1)) same);
      means = m.1 ∙ ap (λ (x : C × List Token). Some x.0) same;
    }

-- what the test of forms that are apart says of the first
pub record IsApart {C : Type 0} (f : Form C) (fs : List (Form C)) : Type 0 where
  pub is_clear : clear f.line [] ≡ true
  pub is_closed : closed f.line ≡ true
  pub differs : differs_from f.line fs ≡ true
  pub others : are_apart fs ≡ true

pub apart_parts : {C : Type 0} (f : Form C) (fs : List (Form C)) → are_apart (f ∷ fs) ≡ true → IsApart f fs
apart_parts f fs e =
    let b = and_parts (clear f.line [] && closed f.line) (differs_from f.line fs && are_apart fs) e in
    let k = and_parts (clear f.line []) (closed f.line) b.0 in
    let d = and_parts (differs_from f.line fs) (are_apart fs) b.1 in
    record { is_clear = k.0; is_closed = k.1; differs = d.0; others = d.1 }

by_again : {C : Type 0} (f : Form C) (ts rest : List Token) (c : C) → clear f.line [] ≡ true → closed f.line ≡ true → IsBy f c ts rest → command_by f ts ≡ Some (c, rest)
by_again f ts rest c k l h = rw (again f.line [] k h.values ts rest (inl l) h.spells) (rw h.means refl)

found_first : {C : Type 0} (f : Form C) (fs : List (Form C)) (ts rest : List Token) (c : C) (o : Option (C × List Token)) → command_by f ts ≡ o
    → or_else o (command_in fs ts) ≡ Some (c, rest) → (command_in fs ts ≡ Some (c, rest) → IsByOne fs c ts rest) → IsByOne (f ∷ fs) c ts rest
found_first f fs ts rest c (Some d) e h k = inl (by_found f ts rest c (e ∙ h))
found_first f fs ts rest c None e h k = inr (k h)

-- a command that the forms read is one of theirs
pub in_found : {C : Type 0} (fs : List (Form C)) (ts rest : List Token) (c : C) → command_in fs ts ≡ Some (c, rest) → IsByOne fs c ts rest
in_found [] ts rest c e = absurd (cc)
in_found (f ∷ fs) ts rest c e = found_first f fs ts rest c (command_by f ts) refl e (λ h. in_found fs ts rest c h)

from_differs : {C : Type 0} (g : Grammar) (fs : List (Form C)) (ts r s : List Token) (x : Values g) (d : C) → closed g ≡ true → are_apart fs ≡ true → differs_from g fs ≡ true
    → Spells g x ts r → IsByOne fs d ts s → ⊥
from_differs g [] ts r s x d l a e h k = k
from_differs g (f ∷ fs) ts r s x d l a e h (inl k) =
    differs g f.line ts r s x k.values (inl l) (inl (apart_parts f fs a).is_closed) (and_parts (differ g f.line) (differs_from g fs) e).0 h k.spells
from_differs g (f ∷ fs) ts r s x d l a e h (inr k) =
    from_differs g fs ts r s x d l (apart_parts f fs a).others (and_parts (differ g f.line) (differs_from g fs) e).1 h k

again_first : {C : Type 0} (f : Form C) (fs : List (Form C)) (ts rest : List Token) (c : C) (o : Option (C × List Token)) → command_by f ts ≡ o
    → (IsBy f c ts rest → o ≡ Some (c, rest)) → (IsByOne fs c ts rest → command_in fs ts ≡ Some (c, rest))
    → ((d : C) (r : List Token) → o ≡ Some (d, r) → IsByOne fs c ts rest → ⊥)
    → IsByOne (f ∷ fs) c ts rest → or_else o (command_in fs ts) ≡ Some (c, rest)
again_first f fs ts rest c (Some x) e first others never (inl h) = first h
again_first f fs ts rest c (Some x) e first others never (inr h) = absurd (never x.0 x.1 refl h)
again_first f fs ts rest c None e first others never (inl h) = let n = first h in absurd (cc)
again_first f fs ts rest c None e first others never (inr h) = others h

-- a command of forms that are apart is read as what it is
pub in_again : {C : Type 0} (fs : List (Form C)) (ts rest : List Token) (c : C) → are_apart fs ≡ true → IsByOne fs c ts rest → command_in fs ts ≡ Some (c, rest)
in_again [] ts rest c k h = absurd h
in_again (f ∷ fs) ts rest c k h =
    let p = apart_parts f fs k in
    again_first f fs ts rest c (command_by f ts) refl (λ one. by_again f ts rest c p.is_clear p.is_closed one) (λ one. in_again fs ts rest c p.others one)
    (λ d r e one. let b = by_found f ts r d e in from_differs f.line fs ts r rest b.values c p.is_closed p.others p.differs b.spells one) h

-- one command at the front of each token list
pub one_command : {C : Type 0} (fs : List (Form C)) (ts r s : List Token) (c d : C) → are_apart fs ≡ true → IsByOne fs c ts r → IsByOne fs d ts s → (c ≡ d) × (r ≡ s)
one_command {C} fs ts r s c d k h l =
    let same = some_same (sym (in_again fs ts r c k h) ∙ in_again fs ts s d k l) in
    (ap (λ (x : C × List Token). x.0) same, ap (λ (x : C × List Token). x.1) same)
