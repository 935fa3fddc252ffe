-- What `clap` finds in words of the form `--name=value`, and the refusals, by the command of any form.
use Rattle.std.specs.{Prelude.{fold, is_some, if◌then◌else◌}, List.{list_any}}
use Rattle.std.proofs.Common.{◌≡◌, ◌∙◌, ◌&&◌, ◌||◌, ◌∷◌, [], Bool, List, true, false, not, map, refl, sym, ap, ap₂, true≢false}
use Rattle.clap.specs.{Kinds.{Kinds, or_else}, Simple.{entered}, Words.{Rule, fault_of, matches_of}}
use Rattle.clap.specs.Walk.{Row, Walk, first_of, finished, has_row, nothing_held, rows_after, settled, walked, with_default}
use Rattle.clap.specs.Faults.{built_fault, check_fault, default_fault, defaults_fault, entered_fault, given_default_fault, settle_fault, walk_fault}
use Rattle.clap.specs.Takes.{is_given}
use Rattle.clap.specs.declared.error.kind.ErrorKind.TheVariants as kind
use Rattle.rm_lang_words.specs.{Options.{Given, Text}, Form.{Entry, Form, are_options, value_of}, Clap.{faults, found, one_word}}
use Rattle.rm_lang_words.proofs.Clap.{app_is, at, built_with, filled_is, first_rows, given_rows, row, rule, rules, shape}
use Rattle.rm_lang_words.proofs.Walks.{Plain, Walks, is_empty, walks}

abbrev end_fault : Form → Walk → Kinds
end_fault form w = or_else (entered_fault (built_with (rules form)) w.stopped) (or_else (settle_fault (rules form) false w.held)
    (or_else (defaults_fault (settled (rules form) w.held).rows (rules form)) (check_fault (shape form) (finished (rules form) w.held) (is_some (entered (built_with (rules form)) w.stopped)))))

abbrev walk_of : Form → List Text → Walk
walk_of form words = fold (walked (rules form) []) (at []) words

faults_are : (form : Form) (words : List Text) → faults form words ≡ or_else (walk_fault (shape form) [] (at []) words) (end_fault form (walk_of form words))
unfolding faults
faults_are form words = ap (λ a. fault_of a words) (app_is form) ∙ ap (λ (rs : List Rule). built_fault (built_with rs) nothing_held words) (filled_is form)

found_is : (form : Form) (n : Text) (words : List Text) → found form n words ≡ first_of n (finished (rules form) (walk_of form words).held)
unfolding found
found_is form n words = ap (λ a. first_of n (matches_of a words)) (app_is form) ∙ ap (λ (rs : List Rule). first_of n (rows_after rs [] words)) (filled_is form)

-- ---- defaults

either_way : {X : Type 0} (b : Bool) (x y : X) → x ≡ y → (if b then x else y) ≡ x
either_way true x y e = refl
either_way false x y e = sym e

no_fault : (e : Entry) (rows : List Row) → default_fault rows (rule e) ≡ []
no_fault e rows = go (has_row e.name rows)
  where
    go : (b : Bool) → (if b || true then [] else given_default_fault (rule e) []) ≡ []
    go true = refl
    go false = refl

no_default : (e : Entry) (rows : List Row) → with_default rows (rule e) ≡ rows
no_default e rows = either_way (has_row e.name rows) rows rows refl

no_defaults : (form : Form) (rows : List Row) → fold with_default rows (rules form) ≡ rows
no_defaults [] rows = refl
no_defaults (e ∷ rest) rows = ap (λ rs. fold with_default rs (rules rest)) (no_default e rows) ∙ no_defaults rest rows

no_faults : (form : Form) (rows : List Row) → defaults_fault rows (rules form) ≡ []
unfolding defaults_fault
no_faults [] rows = refl
no_faults (e ∷ rest) rows = ap₂ or_else (no_fault e rows) (no_faults rest (with_default rows (rule e)))

-- ---- at the end

-- an entry that has to be given is not
abbrev pub lacks : List Given → Entry → Bool
lacks os e = e.needed && not (is_some (value_of e.name os))

abbrev pub missing : Bool → Kinds
missing lacking = if lacking then kind.MissingRequiredArgument ∷ [] else []

abbrev has_not : List Row → Rule → Bool
has_not rows a = a.required && not (is_given a.id rows)

check_is : (form : Form) (rows : List Row) → check_fault (shape form) rows false ≡ missing (list_any (has_not rows) (rules form))
check_is form rows = refl

lacks_as : (form : Form) (os : List Given) → list_any (has_not (map row os)) (rules form) ≡ list_any (lacks os) form
lacks_as [] os = refl
lacks_as (e ∷ rest) os = ap₂ (λ given more. (e.needed && not given) || more) (given_rows e.name os) (lacks_as rest os)

end_is : (form : Form) (os : List Given) → end_fault form (at os) ≡ missing (list_any (lacks os) form)
end_is form os =
    ap₂ or_else (no_faults form (map row os)) (ap (λ rs. check_fault (shape form) rs false) (no_defaults form (map row os)) ∙ check_is form (map row os)
    ∙ ap missing (lacks_as form os))

unfoldable pub Finds : Form → Bool → List Given → Type 0
Finds form true os = (faults form (map one_word os) ≡ missing (list_any (lacks os) form)) × ((n : Text) → found form n (map one_word os) ≡ value_of n os)
Finds form false os = is_empty (faults form (map one_word os)) ≡ false

pub finds : (form : Form) (os : List Given) → Plain os → Finds form (are_options form [] os) os
unfolding Finds Walks is_empty
finds form os plain = go (are_options form [] os) (walks form [] os plain)
  where
    go : (b : Bool) → Walks b (walk_fault (shape form) [] (at []) (map one_word os)) (walk_of form (map one_word os)) os → Finds form b os
    go true w = (
      faults_are form (map one_word os) ∙ ap₂ (λ ks x. or_else ks (end_fault form x)) w.0 w.1 ∙ end_is form os,
      λ n. found_is form n (map one_word os) ∙ ap (λ (x : Walk). first_of n (finished (rules form) x.held)) w.1 ∙ ap (first_of n) (no_defaults form (map row os)) ∙ first_rows n os,
    )
    go false w = ap is_empty (faults_are form (map one_word os)) ∙ stays (walk_fault (shape form) [] (at []) (map one_word os)) _ w
      where
        stays : (ks more : Kinds) → is_empty ks ≡ false → is_empty (or_else ks more) ≡ false
        stays [] more e = absurd (true≢false e)
        stays (k ∷ ks) more e = refl
