-- No name that words give has `=`.
use Rattle.std.specs.{Prelude.{if◌then◌else◌, option_map}, List.{before_first, position_or_len}}
use Rattle.std.proofs.Common.{◌≡◌, ◌∙◌, ◌∷◌, ◌<◌, ◌==◌, [], Bool, List, Option, Some, None, true, false, sym, ap, get_or, take, arith, true≢false}
use Rattle.std.proofs.lemmas.{List.Sums.{fails_before_first}, Grind.{common_steps}}
use Rattle.clap.proofs.CutLemmas.{Lacks}
use Rattle.rm_lang_words.specs.Options.{Given, Text, behind_hyphens, given_behind, is_equals, is_value, split, split_word, option_word, with_given}
use Rattle.rm_lang_words.proofs.Walks.{Plain}

abbrev pub PlainIn : Option (List Given) → Type 0
PlainIn None = Unit {0}
PlainIn (Some os) = Plain os

abbrev Lacking : Option Text → Type 0
Lacking None = Unit {0}
Lacking (Some n) = Lacks 61 n

before_lacks : (text : Text) → Lacks 61 (before_first is_equals text)
before_lacks text i lt is =
    let within : i < position_or_len is_equals text = grind (arith, common_steps) in
    let at : get_or (take (position_or_len is_equals text) text) i 0 ≡ get_or text i 0 = grind (arith, common_steps) in
    let fails : (get_or text i 0 == 61) ≡ false = fails_before_first is_equals text i 0 within in
    let passes : (get_or text i 0 == 61) ≡ true = ap (λ n. n == 61) (sym at ∙ is) in
    true≢false (sym passes ∙ fails)

plain_with : (name value : Text) (others : Option (List Given)) → Lacks 61 name → PlainIn others → PlainIn (with_given name value others)
plain_with name value others lacks plain = go (is_value value) others plain
  where
    go : (b : Bool) (others : Option (List Given)) → PlainIn others → PlainIn (if b then option_map (λ rest. (name, value) ∷ rest) others else None)
    go false others plain = tt
    go true None plain = tt
    go true (Some rest) plain = (lacks, plain)

one_of : (b : Bool) (x y : Option (List Given)) → PlainIn x → PlainIn y → PlainIn (if b then x else y)
one_of true x y plain other = plain
one_of false x y plain other = other

module _ (flags : Text → Bool) where
  plain_split : (p : Text × Option Text) (others : Option (List Given)) (waits : Text → Option (List Given)) → Lacks 61 p.0 → PlainIn others
      → ((n : Text) → Lacks 61 n → PlainIn (waits n)) → PlainIn (split_word flags p others waits)
  plain_split (n, Some v) others waits lacks plain more = one_of (flags n) _ _ tt (plain_with n v others lacks plain)
  plain_split (n, None) others waits lacks plain more = one_of (flags n) _ _ (plain_with n [] others lacks plain) (more n lacks)

  plain_word : (o : Option Text) (others : Option (List Given)) (waits : Text → Option (List Given)) → PlainIn others
      → ((n : Text) → Lacks 61 n → PlainIn (waits n)) → PlainIn (option_word flags o others waits)
  plain_word None others waits plain more = tt
  plain_word (Some text) others waits plain more = plain_split (split text) others waits (before_lacks text) plain more

  pub plain_behind : (waiting : Option Text) (words : List Text) → Lacking waiting → PlainIn (given_behind flags waiting words)
  plain_behind None [] lacks = tt
  plain_behind (Some name) [] lacks = tt
  plain_behind (Some name) (value ∷ words) lacks = plain_with name value _ lacks (plain_behind None words tt)
  plain_behind None (word ∷ words) lacks =
      plain_word (behind_hyphens word) _ _ (plain_behind None words tt) (λ n l. plain_behind (Some n) words l)
