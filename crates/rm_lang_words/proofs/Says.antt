-- What the words of a program say by a form, by what `clap` finds.
use Rattle.std.specs.{Prelude.{is_some, unwrap_or}, List.{list_all, list_any}, Option.{option_map_or}}
use Rattle.std.proofs.Common.{◌≡◌, ◌≢◌, ◌∙◌, ◌&&◌, ◌||◌, ◌∷◌, [], Bool, List, Option, Some, None, true, false, not, map, refl, sym, ap, ap₂}
use Rattle.clap.specs.declared.parser.matches.ArgMatches.{ArgMatches}
use Rattle.rm_lang_words.specs.Options.{Given, Text, given_in}
use Rattle.rm_lang_words.specs.Form.{Entry, Form, accepts, are_options, has_value, is_flag, is_met, is_met_by, obeys, value_of}
use Rattle.rm_lang_words.specs.{Reading.{AreOf, AreRead, words_behind}, Clap.{all_met, faults, found, one_word, value_at}}
use Rattle.rm_lang_words.proofs.{Finds.{Finds, finds, lacks, missing}, Names.{PlainIn, plain_behind}, Walks.{Plain, filled}}

-- ---- options

and-false : (a b : Bool) → b ≡ false → (a && b) ≡ false
and-false true b is = is
and-false false b is = refl

-- where an entry has to be given and is not, not all are met
unmet : (form : Form) (os : List Given) → list_any (lacks os) form ≡ true → list_all (is_met os) form ≡ false
unmet [] os some = absurd (cc)
unmet (e ∷ rest) os some = go e.needed (value_of e.name os) (list_any (lacks os) rest) (list_all (is_met os) rest) (unmet rest os) some
  where
    go : (needed : Bool) (v : Option Text) (a b : Bool) → (a ≡ true → b ≡ false) → ((needed && not (is_some v)) || a) ≡ true → (option_map_or (has_value e.kind) v (not needed) && b) ≡ false
    go true None a b more is = refl
    go true (Some text) a b more is = and-false (has_value e.kind text) b (more is)
    go false None a b more is = more is
    go false (Some text) a b more is = and-false (has_value e.kind text) b (more is)

-- options that `clap` takes are of the form, and it finds their values
taken : (form : Form) (os : List Given) → Plain os → faults form (map one_word os) ≡ [] → (are_options form [] os ≡ true) × ((n : Text) → found form n (map one_word os) ≡ value_of n os)
unfolding Finds
taken form os plain none = go (are_options form [] os) (finds form os plain)
  where
    go : (b : Bool) → Finds form b os → (b ≡ true) × ((n : Text) → found form n (map one_word os) ≡ value_of n os)
    go true f = (refl, f.1)
    go false f = absurd (filled _ f none)

-- those that it refuses do not obey the form
refused : (form : Form) (os : List Given) → Plain os → faults form (map one_word os) ≢ [] → obeys form os ≡ false
unfolding Finds
refused form os plain some = go (are_options form [] os) (finds form os plain)
  where
    lacking : (b : Bool) → list_any (lacks os) form ≡ b → faults form (map one_word os) ≡ missing b → list_all (is_met os) form ≡ false
    lacking true is f = unmet form os is
    lacking false is f = absurd (some f)

    go : (b : Bool) → Finds form b os → (b && list_all (is_met os) form) ≡ false
    go true f = lacking (list_any (lacks os) form) refl f.0
    go false f = refl

-- each entry is met by what is found exactly where it is met by the options
met_as : (form : Form) (os : List Given) (words : List Text) → ((n : Text) → found form n words ≡ value_of n os) → all_met form words ≡ list_all (is_met os) form
met_as form os words values = λ i. list_all (λ (e : Entry). is_met_by (values e.name i) e) form

-- ---- the words of a program

some_is : (a b : List Text) → ◌≡◌ {A = Option (List Text)} (Some a) (Some b) → a ≡ b
some_is a b e = ap (λ (o : Option (List Text)). unwrap_or o a) e

-- the options of the words, each as one word
module _ (form : Form) (asked ws : List Text) (are : AreOf form asked ws) where
  abbrev Options : Type 0
  Options = (os : List Given) × (given_in (is_flag form) asked ≡ Some os) × Plain os × (map one_word os ≡ ws)

  options : Options
  options = go (given_in (is_flag form) asked) refl (plain_behind (is_flag form) None asked tt) are
    where
      go : (o : Option (List Given)) → given_in (is_flag form) asked ≡ o → PlainIn o → words_behind [] o ≡ Some ws → Options
      go None is plain e = absurd (cc)
      go (Some os) is plain e = (os, is, plain, some_is (map one_word os) ws e)

  pub says : faults form ws ≡ [] → all_met form ws ≡ true → (m : ArgMatches) → ((n : Text) → value_at m n ≡ found form n ws) → AreRead form asked m
  says none met m values =
      let o = options in
      let t = taken form o.0 o.2 (ap (faults form) o.3 ∙ none) in
      let found_as : (n : Text) → found form n ws ≡ value_of n o.0 = λ n. ap (found form n) (sym o.3) ∙ t.1 n in
      record {
        options = o.0;
        given = o.1;
        obeyed = ap₂ (λ a b. a && b) t.0 (sym (met_as form o.0 ws found_as) ∙ met);
        values = λ n. values n ∙ found_as n;
      }

  refuses : (os : List Given) → given_in (is_flag form) asked ≡ Some os → obeys form os ≡ false → accepts form asked ≡ false
  refuses os is not_obeyed = ap (λ (o : Option (List Given)). option_map_or (obeys form) o false) is ∙ not_obeyed

  pub says_none : faults form ws ≢ [] → accepts form asked ≡ false
  says_none some = let o = options in refuses o.0 o.1 (refused form o.0 o.2 (λ none. some (ap (faults form) (sym o.3) ∙ none)))

  pub says_unmet : faults form ws ≡ [] → all_met form ws ≡ false → accepts form asked ≡ false
  says_unmet none not_met =
      let o = options in
      let t = taken form o.0 o.2 (ap (faults form) o.3 ∙ none) in
      let found_as : (n : Text) → found form n ws ≡ value_of n o.0 = λ n. ap (found form n) (sym o.3) ∙ t.1 n in
      refuses o.0 o.1 (and-false (are_options form [] o.0) (list_all (is_met o.0) form) (sym (met_as form o.0 ws found_as) ∙ not_met))
