-- What is read of a block is exactly what it spells.
use Rattle.std.specs.Prelude.{IsTrue}
use Rattle.std.proofs.Common.{◌≡◌, refl, ap, sym, subst, ◌∙◌, inl, inr, arith, ◌≤◌, ℕ, zero, suc, List, [], ◌∷◌, Option, Some, true, false, length}
use Rattle.std.proofs.lemmas.Bool.{and_parts}
use Rattle.rm_lang_token.specs.{Statements.{is_word, is_the_sign}, declared.token.Token.{Token}}
use Rattle.rm_lang_token.specs.declared.token.Token.TheVariants.{Word, Number, Quoted, Sign, Bad}
use Rattle.rm_lang_grammar.specs.{Grammar.{Grammar, word, Values, Spells, SpellsMany}, Reading.{◌>>=◌, word_at, sign_at, many_at}}
use Rattle.rm_lang_grammar.specs.Forms.{Form, IsByOne, command_in, are_apart}
use Rattle.rm_lang_grammar.specs.Blocks.{IsBlock, goes_on, commands_in, block_at, leads, are_led}
use Rattle.rm_lang_grammar.proofs.{Found.{bind_some, some_same, word_found, sign_found, many_found}, Forms.{in_found, in_again}}
use Rattle.rm_lang_grammar.proofs.Short.{short}

abbrev and_behind : {A : Type 0} → A → List Token → Option (A × List Token)
and_behind x ts = Some (x, ts)

-- what is read of a block is a block
pub block_found : {C : Type 0} (k : List ℕ) (fs : List (Form C)) (ts rest : List Token) (cs : List C) → block_at k fs ts ≡ Some (cs, rest) → IsBlock k fs cs ts rest
block_found {C} k fs ts rest cs e =
    let a = bind_some (word_at k ts) (λ us. sign_at 123 us >>= λ vs. commands_in fs vs >>= λ x. sign_at 125 x.1 >>= λ r. and_behind x.0 r) (cs, rest) e in
    let b = bind_some (sign_at 123 a.0) (λ vs. commands_in fs vs >>= λ x. sign_at 125 x.1 >>= λ r. and_behind x.0 r) (cs, rest) a.2 in
    let d = bind_some (commands_in fs b.0) (λ x. sign_at 125 x.1 >>= λ r. and_behind x.0 r) (cs, rest) b.2 in
    let z = bind_some (sign_at 125 d.0.1) (λ r. and_behind d.0.0 r) (cs, rest) d.2 in
    let same = some_same z.2 in
    let w = word_found k ts a.0 a.1 in
    let opened = (sign_found 123 a.0 b.0 b.1).0 in
    let closed = (sign_found 125 d.0.1 z.0 z.1).0 in
    let many = many_found (IsByOne fs) goes_on (command_in fs) (λ c us vs h. in_found fs us vs c h) (length b.0) b.0 d.0.1 d.0.0 d.1 in
    let behind = closed ∙ ap (λ (x : List C × List Token). Sign 125 ∷ x.1) same in
    let inside = subst (λ us. SpellsMany (IsByOne fs) d.0.0 b.0 us) behind many in
    (w.0, b.0, w.1 ∙ ap (λ us. w.0 ∷ us) opened, w.2, subst (λ (x : List C × List Token). SpellsMany (IsByOne fs) x.0 b.0 (Sign 125 ∷ rest)) same inside)

-- a word stands first, and something is taken
record IsLed (ts rest : List Token) : Type 0 where
  front : Token
  others : List Token
  parts : ts ≡ front ∷ others
  no_sign : is_the_sign 125 front ≡ false
  less : length rest ≤ length others

word_no_sign : (k : List ℕ) (t : Token) → IsTrue (is_word k t) → is_the_sign 125 t ≡ false
word_no_sign k (Word w) h = refl
word_no_sign k (Number n) h = absurd (cc)
word_no_sign k (Quoted w) h = absurd (cc)
word_no_sign k (Sign c) h = absurd (cc)
word_no_sign k Bad h = absurd (cc)

led : (g : Grammar) (vs : Values g) (ts rest : List Token) → leads g ≡ true → Spells g vs ts rest → IsLed ts rest
led (word k g) vs ts rest e h = record { front = h.0; others = h.1; parts = h.2; no_sign = word_no_sign k h.0 h.3; less = short g vs h.1 rest h.4 }
led g vs ts rest e h = absurd (cc)

one_led : {C : Type 0} (fs : List (Form C)) (c : C) (ts rest : List Token) → are_led fs ≡ true → IsByOne fs c ts rest → IsLed ts rest
one_led [] c ts rest l h = absurd h
one_led (f ∷ fs) c ts rest l (inl h) = led f.line h.values ts rest (and_parts (leads f.line) (are_led fs) l).0 h.spells
one_led (f ∷ fs) c ts rest l (inr h) = one_led fs c ts rest (and_parts (leads f.line) (are_led fs) l).1 h

-- there are no more commands than tokens
few : {C : Type 0} (fs : List (Form C)) (cs : List C) (ts rest : List Token) → are_led fs ≡ true → SpellsMany (IsByOne fs) cs ts rest → length cs ≤ length ts
few fs [] ts rest l h = omega arith
few fs (c ∷ cs) ts rest l h =
    let one = one_led fs c ts h.0 l h.1 in
    let i = few fs cs h.0 rest l h.2 in
    let j = one.less in
    subst (λ (z : List Token). length (c ∷ cs) ≤ length z) (sym one.parts) (grind arith)

-- commands that are spelled one behind the other are read
each_again : {C : Type 0} (fs : List (Form C)) (cs : List C) (n : ℕ) (ts rest : List Token) → are_apart fs ≡ true → are_led fs ≡ true → length cs ≤ n
    → SpellsMany (IsByOne fs) cs ts (Sign 125 ∷ rest) → many_at goes_on (command_in fs) n ts ≡ Some (cs, Sign 125 ∷ rest)
each_again fs [] zero ts rest a l m h = subst (λ z. many_at goes_on (command_in fs) zero z ≡ Some ([], Sign 125 ∷ rest)) (sym h) refl
each_again fs [] (suc n) ts rest a l m h = subst (λ z. many_at goes_on (command_in fs) (suc n) z ≡ Some ([], Sign 125 ∷ rest)) (sym h) refl
each_again fs (c ∷ cs) zero ts rest a l m h = absurd (grind arith)
each_again fs (c ∷ cs) (suc n) ts rest a l m h =
    let one = one_led fs c ts h.0 l h.1 in
    let first : goes_on ts ≡ true = subst (λ z. goes_on z ≡ true) (sym one.parts) (rw one.no_sign refl) in
    let others = each_again fs cs n h.0 rest a l (grind arith) h.2 in
    rw first (rw (in_again fs ts h.0 c a h.1) (rw others refl))

-- a block is read as what it is
pub block_again : {C : Type 0} (k : List ℕ) (fs : List (Form C)) (ts rest : List Token) (cs : List C) → are_apart fs ≡ true → are_led fs ≡ true
    → IsBlock k fs cs ts rest → block_at k fs ts ≡ Some (cs, rest)
block_again k fs ts rest cs a l h =
    let inside = each_again fs cs (length h.1) h.1 rest a l (few fs cs h.1 (Sign 125 ∷ rest) l h.4) h.4 in
    subst (λ z. block_at k fs z ≡ Some (cs, rest)) (sym h.2) (rw h.3 (rw inside refl))
