-- What `clap` makes of words of the form `--name=value`, over the command of any form.
use Rattle.std.specs.{Prelude.{count_by, is_some, fold, if◌then◌else◌}, List.{list_all, list_any}, Str.{bytes_eq}}
use Rattle.std.proofs.Common.{◌≡◌, ◌∙◌, ◌&&◌, ◌||◌, ◌++◌, ◌∷◌, [], ℕ, ◌+◌, ◌<◌, Bool, List, Option, Some, None, true, false, map, not, refl, sym, ap, cond, append-nil, append_assoc, true≢false, take, length, get_or}
use Rattle.std.proofs.lemmas.{List.{map-append, take_more, Sums.{fold-append}}, Slice.Eq.{bytes_eq-Decides}}
use Rattle.clap.specs.{Kinds.{Kinds, or_else}, Lexer.{name_and_value}, Words.{App, Row, Rule, is_simple, is_simple_and_free, with_rule}}
use Rattle.clap.specs.Walk.{Held, Walk, after_step, arg_by_long, at_row, first_of, has_row, idle, is_early_multiple, more_values, with_values, without, walk_from, walked, long_met, after_flag}
use Rattle.clap.specs.{Faults.{long_fault, step_fault, turn_fault}, Simple.{Shape, filled, filled_from, on_top, with_index}}
use Rattle.clap.specs.{Takes.{is_given}, declared.parser.matches.ValueSource.TheVariants.{CommandLine}}
use Rattle.clap.specs.declared.builder.value_parser.Reading.TheVariants as reading
use Rattle.clap.specs.declared.error.kind.ErrorKind.TheVariants as kind
use Rattle.rm_lang_words.specs.{Options.{Given, Text}, Form.{Entry, Form, entry_of, form_of, is_name, is_named, value_of}}
use Rattle.rm_lang_words.specs.{Clap.{app_of_form, base, rule_of_entry}, declared.form.Entry.{Entry as EntryInCode}}

-- ---- the command of a form

-- one entry more is one argument more
pub one_more : (xs : List EntryInCode) (i : ℕ) (d : EntryInCode) → i < length xs
    → app_of_form (form_of (take (i + 1) xs)) ≡ with_rule (app_of_form (form_of (take i xs))) (rule_of_entry (entry_of (get_or xs i d)))
one_more xs i d within =
    ap (λ (es : List EntryInCode). app_of_form (form_of es)) (take_more xs i d within)
    ∙ ap app_of_form (map-append entry_of (take i xs) (get_or xs i d ∷ []))
    ∙ fold-append (λ (app : App) (e : Entry). with_rule app (rule_of_entry e)) base (form_of (take i xs)) (entry_of (get_or xs i d) ∷ [])

-- the command with these arguments
abbrev app_with : List Rule → App
app_with rs = on_top (λ s. record s { rules = rs }) base

folded : (before : List Rule) (form : Form) → fold (λ (app : App) (e : Entry). with_rule app (rule_of_entry e)) (app_with before) form ≡ app_with (before ++ map rule_of_entry form)
folded before [] = ap app_with (sym (append-nil before))
folded before (e ∷ rest) = folded (before ++ rule_of_entry e ∷ []) rest ∙ ap app_with (append_assoc before (rule_of_entry e ∷ []) (map rule_of_entry rest))

pub app_is : (form : Form) → app_of_form form ≡ app_with (map rule_of_entry form)
app_is form = folded [] form

-- an entry's argument, built
abbrev pub rule : Entry → Rule
rule e = with_index 1 (filled (rule_of_entry e))

-- the arguments of a form, built
abbrev pub rules : Form → List Rule
rules form = map rule form

pub filled_is : (form : Form) → filled_from 1 (map rule_of_entry form) ≡ rules form
filled_is [] = refl
filled_is (e ∷ rest) = ap (λ rs. rule e ∷ rs) (filled_is rest)

-- the command of a form, built
abbrev pub built_with : List Rule → App
built_with rs = on_top (λ s. record s { rules = rs; disable_help_subcommand = true; is_built = true }) base

abbrev pub shape : Form → Shape
shape form = (built_with (rules form)).top

-- `clap` tells of each such command what it makes of the words
all_simple : (form : Form) → list_all (λ (a : Rule). a.is_simple) (map rule_of_entry form) ≡ true
all_simple [] = refl
all_simple (e ∷ rest) = all_simple rest

all_built_simple : (form : Form) → list_all (λ (a : Rule). a.is_simple) (rules form) ≡ true
all_built_simple [] = refl
all_built_simple (e ∷ rest) = all_built_simple rest

all_free : (form : Form) → list_all (λ (a : Rule). a.is_free) (rules form) ≡ true
all_free [] = refl
all_free (e ∷ rest) = all_free rest

none_early : (n : ℕ) (form : Form) → list_any (is_early_multiple n) (rules form) ≡ false
none_early n [] = refl
none_early n (e ∷ rest) = none_early n rest

simple_with : (rs : List Rule) → list_all (λ (a : Rule). a.is_simple) rs ≡ true → list_all (λ (a : Rule). a.is_simple) (filled_from 1 rs) ≡ true
    → ((n : ℕ) → list_any (is_early_multiple n) (filled_from 1 rs) ≡ false) → is_simple (app_with rs) ≡ true
simple_with rs s b e = λ i. s i && true && (b i && not (e (count_by (λ (a : Rule). is_some a.index) (filled_from 1 rs)) i) && true)

free_with : (rs : List Rule) → is_simple (app_with rs) ≡ true → list_all (λ (a : Rule). a.is_free) (filled_from 1 rs) ≡ true → is_simple_and_free (app_with rs) ≡ true
free_with rs s f = λ i. s i && (f i && true)

pub simple : (form : Form) → is_simple (app_of_form form) ≡ true
simple form =
    let rs = map rule_of_entry form in
    let built_simple = ap (list_all (λ (a : Rule). a.is_simple)) (filled_is form) ∙ all_built_simple form in
    ap is_simple (app_is form) ∙ simple_with rs (all_simple form) built_simple (λ n. ap (list_any (is_early_multiple n)) (filled_is form) ∙ none_early n form)

pub free : (form : Form) → is_simple_and_free (app_of_form form) ≡ true
free form =
    let simple_as = ap is_simple (sym (app_is form)) ∙ simple form in
    ap is_simple_and_free (app_is form) ∙ free_with (map rule_of_entry form) simple_as (ap (list_all (λ (a : Rule). a.is_free)) (filled_is form) ∙ all_free form)

-- ---- rows

abbrev pub row : Given → Row
row o = record { id = o.0; values = o.1 ∷ []; count = None; source = Some CommandLine; reading = reading.AsWritten }

pub named_rows : (n : Text) (seen : List Given) → has_row n (map row seen) ≡ is_named n seen
named_rows n [] = refl
named_rows n (o ∷ rest) = ap (λ b. bytes_eq o.0 n || b) (named_rows n rest)

pub first_rows : (n : Text) (seen : List Given) → first_of n (map row seen) ≡ value_of n seen
first_rows n [] = refl
first_rows n (o ∷ rest) = go (bytes_eq o.0 n) refl (first_rows n rest)
  where
    go : (b : Bool) → bytes_eq o.0 n ≡ b → first_of n (map row rest) ≡ value_of n rest → first_of n (map row (o ∷ rest)) ≡ value_of n (o ∷ rest)
    go true e more = rw e refl
    go false e more = rw e more

pub given_rows : (n : Text) (seen : List Given) → is_given n (map row seen) ≡ is_some (value_of n seen)
given_rows n [] = refl
given_rows n (o ∷ rest) = go (bytes_eq o.0 n) refl (given_rows n rest)
  where
    go : (b : Bool) → bytes_eq o.0 n ≡ b → is_given n (map row rest) ≡ is_some (value_of n rest) → is_given n (map row (o ∷ rest)) ≡ is_some (value_of n (o ∷ rest))
    go true e more = rw e refl
    go false e more = rw e more

-- where no row has the name, the rest goes to the end
at_end : (n : Text) (change : Row → List Row) (missing rows : List Row) → has_row n rows ≡ false → at_row n change missing rows ≡ rows ++ missing
at_end n change missing [] fresh = refl
at_end n change missing (r ∷ rows) fresh = go (bytes_eq r.id n) refl (at_end n change missing rows)
  where
    go : (b : Bool) → bytes_eq r.id n ≡ b → (has_row n rows ≡ false → at_row n change missing rows ≡ rows ++ missing) → at_row n change missing (r ∷ rows) ≡ r ∷ (rows ++ missing)
    go true e more = absurd (true≢false (sym (ap (λ b. b || has_row n rows) e) ∙ fresh))
    go false e more = rw e (ap (λ rs. r ∷ rs) (more (sym (ap (λ b. b || has_row n rows) e) ∙ fresh)))

pub appended : (n v : Text) (rows : List Row) → has_row n rows ≡ false
    → with_values n reading.AsWritten CommandLine (v ∷ []) (without n rows) ≡ rows ++ row (n, v) ∷ []
appended n v rows fresh =
    ap (with_values n reading.AsWritten CommandLine (v ∷ [])) (at_end n (λ _. []) [] rows fresh ∙ append-nil rows)
    ∙ at_end n (more_values CommandLine (v ∷ [])) (row (n, v) ∷ []) rows fresh

-- ---- one word

abbrev pub held : List Row → Held
held rows = record { rows = rows; pending = None; skip = 0 }

abbrev pub at : List Given → Walk
at seen = walk_from (held (map row seen))

-- the argument of the name: the first entry's, if it has this name, or else one of the rest
abbrev chosen : Bool → Rule → Option Rule → Option Rule
chosen b r more = cond (b || false) (Some r) more

by_long : (n : Text) (e : Entry) (rest : Form) → arg_by_long (rules (e ∷ rest)) n ≡ chosen (bytes_eq e.name n) (rule e) (arg_by_long (rules rest) n)
by_long n e rest = refl

same : (m n : Text) → bytes_eq m n ≡ true → m ≡ n
same m n = (bytes_eq-Decides m n).0

-- the argument that `clap` finds under the name, where the form has the name or not
unfoldable pub Known : Form → Text → Bool → Type 0
Known form n true = (e : Entry) × (e.name ≡ n) × (arg_by_long (rules form) n ≡ Some (rule e))
Known form n false = arg_by_long (rules form) n ≡ None

pub known : (form : Form) (n : Text) → Known form n (is_name form n)
unfolding Known
known [] n = refl
known (e ∷ rest) n = go (bytes_eq e.name n) refl (is_name rest n) (known rest n)
  where
    go : (b : Bool) → bytes_eq e.name n ≡ b → (c : Bool) → Known rest n c → Known (e ∷ rest) n (b || c)
    go true is c more = (e, same e.name n is, by_long n e rest ∙ ap (λ t. chosen t (rule e) (arg_by_long (rules rest) n)) is)
    go false is true (other, named, more) = (other, named, by_long n e rest ∙ ap (λ t. chosen t (rule e) (arg_by_long (rules rest) n)) is ∙ more)
    go false is false more = by_long n e rest ∙ ap (λ t. chosen t (rule e) (arg_by_long (rules rest) n)) is ∙ more

-- one word of the walk
module _ (form : Form) (x : ℕ) (xs n v : Text) (parts : name_and_value (x ∷ xs) ≡ (n, Some v)) (seen : List Given) where
  abbrev word : Text
  word = 45 ∷ 45 ∷ x ∷ xs

  abbrev fault_at : Text × Option Text → Option Rule → Kinds
  fault_at p r = or_else (long_fault (rules form) false r p.1 (held (map row seen)))
      (step_fault (shape form) 1 (after_flag (rules form) idle word (long_met (rules form) r p.1 (held (map row seen))).0 (long_met (rules form) r p.1 (held (map row seen))).1).0
      (after_flag (rules form) idle word (long_met (rules form) r p.1 (held (map row seen))).0 (long_met (rules form) r p.1 (held (map row seen))).1).1)

  abbrev walk_at : Text × Option Text → Option Rule → Walk
  walk_at p r = after_step (rules form) word (at seen)
      (after_flag (rules form) idle word (long_met (rules form) r p.1 (held (map row seen))).0 (long_met (rules form) r p.1 (held (map row seen))).1).0
      (after_flag (rules form) idle word (long_met (rules form) r p.1 (held (map row seen))).0 (long_met (rules form) r p.1 (held (map row seen))).1).1

  fault_is : (r : Option Rule) → arg_by_long (rules form) n ≡ r → turn_fault (shape form) [] (at seen) word ≡ fault_at (n, Some v) r
  fault_is r e = ap (λ p. fault_at p (arg_by_long (rules form) p.0)) parts ∙ ap (fault_at (n, Some v)) e

  walk_is : (r : Option Rule) → arg_by_long (rules form) n ≡ r → walked (rules form) [] (at seen) word ≡ walk_at (n, Some v) r
  unfolding walked
  walk_is r e = ap (λ p. walk_at p (arg_by_long (rules form) p.0)) parts ∙ ap (walk_at (n, Some v)) e

  pub unknown : arg_by_long (rules form) n ≡ None → turn_fault (shape form) [] (at seen) word ≡ kind.UnknownArgument ∷ []
  unknown e = fault_is None e

  pub found_fault : (e : Entry) (b : Bool) → arg_by_long (rules form) n ≡ Some (rule e) → has_row e.name (map row seen) ≡ b
      → turn_fault (shape form) [] (at seen) word ≡ or_else (or_else (if b && true then kind.ArgumentConflict ∷ [] else []) []) []
  found_fault e b is fresh = fault_is (Some (rule e)) is
      ∙ ap (λ t. or_else (or_else (if t && true then kind.ArgumentConflict ∷ [] else []) []) []) fresh

  pub found_walk : (e : Entry) → e.name ≡ n → arg_by_long (rules form) n ≡ Some (rule e) → has_row e.name (map row seen) ≡ false
      → walked (rules form) [] (at seen) word ≡ at (seen ++ (n, v) ∷ [])
  found_walk e named is fresh = walk_is (Some (rule e)) is
      ∙ ap (λ rs. walk_from (held rs)) (appended e.name v (map row seen) fresh ∙ sym (map-append row seen ((e.name, v) ∷ [])))
      ∙ ap (λ m. at (seen ++ (m, v) ∷ [])) named
