-- One step of the reader of options: the options before stand for what was read.
use Rattle.std.specs.Prelude.{if◌then◌else◌, option_map}
use Rattle.std.proofs.Common.{◌≡◌, ◌++◌, ◌∷◌, [], Bool, List, Option, Some, None, true, false, map, refl, sym, ap, append_assoc, ◌∙◌}
use Rattle.rm_lang_words.specs.Options.{Given, Text, behind_hyphens, given_behind, is_value, option_word, split, split_word, with_given}
use Rattle.rm_lang_words.specs.{Clap.{one_word}, Reading.{IsReadOn, IsRefused, with_left, words_behind}}

pub pushed : (before new : List Text) (name value : Text) (others : Option (List Given)) → is_value value ≡ true
    → new ≡ before ++ one_word (name, value) ∷ [] → words_behind before (with_given name value others) ≡ words_behind new others
pushed before new name value None is new_is = rw is refl
pushed before new name value (Some rest) is new_is =
    rw (is, new_is) (ap Some (sym (append_assoc before (one_word (name, value) ∷ []) (map one_word rest))))

-- a word that begins with `--` is read by the text behind that
pub as_text : (flags : Text → Bool) (before : List Text) (word text : Text) → behind_hyphens word ≡ Some text → (left : List Text)
    → with_left flags before None (word ∷ left) ≡ with_left flags before None ((45 ∷ 45 ∷ text) ∷ left)
as_text flags before word text is left = ap (λ o. words_behind before (option_word flags o (given_behind flags None left) (λ n. given_behind flags (Some n) left))) is

module _ (flags : Text → Bool) (before new : List Text) where
  -- the word is the value of the name that waits
  pub read_value : (name word : Text) → is_value word ≡ true → new ≡ before ++ one_word (name, word) ∷ [] → IsReadOn flags before (Some name) word new None
  read_value name word is new_is left = pushed before new name word (given_behind flags None left) is new_is

  module _ (text name : Text) where
    at : (value : Option Text) → split text ≡ (name, value) → (b : Bool) → flags name ≡ b → (left : List Text)
        → with_left flags before None ((45 ∷ 45 ∷ text) ∷ left) ≡ words_behind before (split_word (λ _. b) (name, value) (given_behind flags None left) (λ n. given_behind flags (Some n) left))
    at (Some value) parts b is left = ap (λ p. words_behind before (split_word flags p (given_behind flags None left) (λ n. given_behind flags (Some n) left))) parts
        ∙ ap (λ c. words_behind before (if c then None else with_given name value (given_behind flags None left))) is
    at None parts b is left = ap (λ p. words_behind before (split_word flags p (given_behind flags None left) (λ n. given_behind flags (Some n) left))) parts
        ∙ ap (λ c. words_behind before (if c then with_given name [] (given_behind flags None left) else given_behind flags (Some name) left)) is

    -- the word is `--name=value`
    pub read_whole : (value : Text) → split text ≡ (name, Some value) → flags name ≡ false → is_value value ≡ true
        → new ≡ before ++ one_word (name, value) ∷ [] → IsReadOn flags before None (45 ∷ 45 ∷ text) new None
    read_whole value parts is good new_is left = at (Some value) parts false is left ∙ pushed before new name value (given_behind flags None left) good new_is

    -- the word is `--name` of a flag
    pub read_flag : split text ≡ (name, None) → flags name ≡ true → new ≡ before ++ one_word (name, []) ∷ [] → IsReadOn flags before None (45 ∷ 45 ∷ text) new None
    read_flag parts is new_is left = at None parts true is left ∙ pushed before new name [] (given_behind flags None left) refl new_is

    -- the word is `--name` of another option
    pub read_name : split text ≡ (name, None) → flags name ≡ false → IsReadOn flags before None (45 ∷ 45 ∷ text) before (Some name)
    read_name parts is left = at None parts false is left

    -- the word is `--name=value` of a flag
    pub refuse_flag : (value : Text) → split text ≡ (name, Some value) → flags name ≡ true → IsRefused flags before None (45 ∷ 45 ∷ text)
    refuse_flag value parts is left = at (Some value) parts true is left

    -- the word is `--name=value`, and the value is none
    pub refuse_value : (value : Text) → split text ≡ (name, Some value) → flags name ≡ false → is_value value ≡ false → IsRefused flags before None (45 ∷ 45 ∷ text)
    refuse_value value parts is bad left = at (Some value) parts false is left ∙ ap (λ c. words_behind before (if c then option_map (λ rest. (name, value) ∷ rest) (given_behind flags None left) else None)) bad
