-- Lines that differ spell no token list both.
use Rattle.std.specs.{Prelude.{IsTrue, ◌⊎◌}, Str.{str_eq_ignore_ascii_case}}
use Rattle.std.proofs.{Common.{◌≡◌, sym, subst, ◌∙◌, inl, inr, ℕ, List, [], Bool, true, false, ◌||◌, not}, lemmas.Bool.{and_parts}}
use Rattle.rm_lang_token.specs.{Statements.{is_word}, declared.token.Token.{Token, TheVariants.{Word, Number, Quoted, Sign, Bad}}}
use Rattle.rm_lang_grammar.specs.Grammar.{Grammar, end, semicolon, word, flag, noise, number, number_or, text, tag, named, optional, either, numbers, sign, many, Values, Spells}
use Rattle.rm_lang_grammar.specs.{Clear.{firsts, apart, keyed, Follows}, Differ.{differ, differ_here}}
use Rattle.rm_lang_grammar.proofs.Opens.{begun, not_begun, opens, like_both}

here : (a b : Grammar) (ts r s : List Token) (x : Values a) (y : Values b) → Follows a [] r → differ_here a b ≡ true → Spells a x ts r → Spells b y ts s → ⊥
here a b ts r s x y o e h k =
    let d = and_parts (keyed b) (apart (firsts b []) (firsts a [])) e in
    let n = not_begun b [] (firsts a []) ts d.1 (opens a [] x ts r o h) in
    let p = begun b y ts s d.0 k in cc

same_key : (w j : List ℕ) (t : Token) → IsTrue (is_word w t) → IsTrue (is_word j t) → str_eq_ignore_ascii_case w j ≡ true
same_key w j (Word v) p q = like_both v w j p q
same_key w j (Number v) p q = absurd (cc)
same_key w j (Quoted v) p q = absurd (cc)
same_key w j (Sign v) p q = absurd (cc)
same_key w j Bad p q = absurd (cc)

unlike_or : (a b : Bool) → (not a || b) ≡ true → (a ≡ true → ⊥) ⊎ (b ≡ true)
unlike_or true b e = inr e
unlike_or false b e = inl (λ h. cc)

differ_words : (w j : List ℕ) (g b : Grammar) (ts r s : List Token) (x : Values g) (y : Values b) → (not (str_eq_ignore_ascii_case w j) || differ g b) ≡ true
    → Spells (word w g) x ts r → Spells (word j b) y ts s
    → ((us : List Token) (u : Unit {0}) → differ g b ≡ true → Spells g x us r → Spells b y us s → ⊥) → ⊥
differ_words w j g b ts r s x y e h k go =
    let same = sym h.2 ∙ k.2 in
    let heads : h.0 ≡ k.0 = cc in
    let tails : h.1 ≡ k.1 = cc in
    elim (unlike_or (str_eq_ignore_ascii_case w j) (differ g b) e) [
      | inl n ↦ n (same_key w j h.0 h.3 (subst (λ t. IsTrue (is_word j t)) (sym heads) k.3))
      | inr d ↦ go h.1 tt d h.4 (subst (λ us. Spells b y us s) (sym tails) k.4)
    ]

pub differs : (a b : Grammar) (ts r s : List Token) (x : Values a) (y : Values b) → Follows a [] r → Follows b [] s → differ a b ≡ true → Spells a x ts r → Spells b y ts s → ⊥
differs end b ts r s x y o q e h k = cc
differs semicolon b ts r s x y o q e h k = here semicolon b ts r s x y o e h k
differs (flag w g) b ts r s x y o q e h k = here (flag w g) b ts r s x y o e h k
differs (noise w g) b ts r s x y o q e h k = here (noise w g) b ts r s x y o e h k
differs (number p g) b ts r s x y o q e h k = here (number p g) b ts r s x y o e h k
differs (number_or w d p g) b ts r s x y o q e h k = here (number_or w d p g) b ts r s x y o e h k
differs (text p g) b ts r s x y o q e h k = here (text p g) b ts r s x y o e h k
differs (tag g) b ts r s x y o q e h k = here (tag g) b ts r s x y o e h k
differs (named w g) b ts r s x y o q e h k = here (named w g) b ts r s x y o e h k
differs (optional a g) b ts r s x y o q e h k = here (optional a g) b ts r s x y o e h k
differs (either a c g) b ts r s x y o q e h k = here (either a c g) b ts r s x y o e h k
differs (numbers g) b ts r s x y o q e h k = here (numbers g) b ts r s x y o e h k
differs (sign c g) b ts r s x y o q e h k = here (sign c g) b ts r s x y o e h k
differs (many w a g) b ts r s x y o q e h k = here (many w a g) b ts r s x y o e h k
differs (word w g) end ts r s x y o q e h k = cc
differs (word w g) semicolon ts r s x y o q e h k = cc
differs (word w g) (word j b) ts r s x y o q e h k = differ_words w j g b ts r s x y e h k (λ us u d m n. differs g b us r s x y o q d m n)
differs (word w g) (flag j b) ts r s x y o q e h k = here (flag j b) (word w g) ts s r y x q e k h
differs (word w g) (noise j b) ts r s x y o q e h k = here (noise j b) (word w g) ts s r y x q e k h
differs (word w g) (number p b) ts r s x y o q e h k = here (number p b) (word w g) ts s r y x q e k h
differs (word w g) (number_or j d p b) ts r s x y o q e h k = here (number_or j d p b) (word w g) ts s r y x q e k h
differs (word w g) (text p b) ts r s x y o q e h k = here (text p b) (word w g) ts s r y x q e k h
differs (word w g) (tag b) ts r s x y o q e h k = here (tag b) (word w g) ts s r y x q e k h
differs (word w g) (named j b) ts r s x y o q e h k = here (named j b) (word w g) ts s r y x q e k h
differs (word w g) (optional a b) ts r s x y o q e h k = here (optional a b) (word w g) ts s r y x q e k h
differs (word w g) (either a c b) ts r s x y o q e h k = here (either a c b) (word w g) ts s r y x q e k h
differs (word w g) (numbers b) ts r s x y o q e h k = here (numbers b) (word w g) ts s r y x q e k h
differs (word w g) (sign c b) ts r s x y o q e h k = here (sign c b) (word w g) ts s r y x q e k h
differs (word w g) (many j a b) ts r s x y o q e h k = here (many j a b) (word w g) ts s r y x q e k h
