-- What is said by words that were read by a form: their texts and numbers.
use Rattle.std.specs.Prelude.{if◌then◌else◌, is_some, length, nat_le, nat_lt, option_and_then, option_map, slice_get, unwrap_or}
use Rattle.std.specs.{List.{list_all}, Option.{option_map_or}, Result.{IsErrAnd}, Str.{all_ascii_digits}}
use Rattle.std.proofs.Common.{arith, ◌≡◌, ◌∙◌, ◌≤◌, ◌&&◌, ℕ, Bool, List, [], Option, Some, None, Result, Ok, Err, true, false, not, refl, sym, ap, IfSome, subst}
use Rattle.std.proofs.lemmas.{Bool.{le-leb, leb-true}, List.Sums.{AllPass-from_list_all}, Option.{get_or_from_slice_get, slice_get_within}}
use Rattle.clap.specs.declared.parser.matches.ArgMatches.{ArgMatches}
use Rattle.rm_lang_words.specs.Options.{Given, Text, given_in}
use Rattle.rm_lang_words.specs.Form.{Entry, Form, accepts, are_options, has_value, is_flag, is_met, number_behind, number_in, number_of, obeys, said_by, text_of, value_of}
use Rattle.rm_lang_words.specs.{Reading.{AreRead, Fails, Gives, words_behind}, Clap.{value_at}, declared.faults.WordsFault.{WordsFault}}
use Rattle.rm_lang_words.specs.declared.{faults.WordsFault.TheVariants.{Bad, NoMemory}, form.Kind.TheVariants.{Number}}

-- words that are not accepted say nothing
pub untold : {S : Type 0} (form : Form) (say : List Given → S) (asked : List Text) → accepts form asked ≡ false → said_by form say asked ≡ None
untold {S} form say asked = go (given_in (is_flag form) asked)
  where
    go : (o : Option (List Given)) → option_map_or (obeys form) o false ≡ false
        → option_and_then (λ (options : List Given). if obeys form options then Some (say options) else None) o ≡ None
    go None is = refl
    go (Some options) is = ap (λ b. if b then Some (say options) else None) is

-- words that give no options say nothing
pub unread : {S : Type 0} (form : Form) (say : List Given → S) (asked : List Text) → words_behind [] (given_in (is_flag form) asked) ≡ None → said_by form say asked ≡ None
unread {S} form say asked = go (given_in (is_flag form) asked)
  where
    go : (o : Option (List Given)) → words_behind [] o ≡ None → option_and_then (λ (options : List Given). if obeys form options then Some (say options) else None) o ≡ None
    go None is = refl
    go (Some options) is = absurd (cc)

of_fault : {S : Type 0} (x : WordsFault) (s : Option S) → (x ≡ Bad → s ≡ None) → Fails x s
of_fault Bad s none = none refl
of_fault NoMemory s none = tt

-- a fault of the reader that `?` hands on
pub fails : {X S : Type 0} (view : X → S) (r : Result X WordsFault) (x : WordsFault) (s : Option S) → IsErrAnd r (λ e. e ≡ x) → (x ≡ Bad → s ≡ None) → Gives view r s
fails view (Ok w) x s is none = absurd is
fails view (Err e) x s is none = subst (λ y. Fails y s) (sym is) (of_fault x s none)

-- ---- values

-- each entry of a form that is obeyed is met
met-at : (options : List Given) (form : Form) → list_all (is_met options) form ≡ true → (k : ℕ) (e : Entry) → slice_get form k ≡ Some e → is_met options e ≡ true
met-at options form all k e at =
    subst (λ (x : Entry). is_met options x ≡ true) (get_or_from_slice_get form k e e at) (AllPass-from_list_all (is_met options) form all k e (slice_get_within form k e at))

last-part : (a b : Bool) → (a && b) ≡ true → b ≡ true
last-part true b is = is
last-part false b is = absurd (cc)

-- a number that lies between its bounds
abbrev if_all : ℕ → Bool → Bool → Bool → Bool → Option ℕ
if_all n a b c d = if a && b && c && d then Some n else None

spelled : (low high most : ℕ) (text : Text) (n : ℕ) (a b c d : Bool) → n ≡ number_behind 0 text → nat_lt 0 (length text) ≡ a → all_ascii_digits text ≡ b
    → nat_le low n ≡ c → nat_le n high ≡ d → high ≤ most → is_some (if_all n a b c d) ≡ true
    → (number_in 0 most text ≡ Some (number_behind 0 text)) × (low ≤ number_behind 0 text) × (number_behind 0 text ≤ high)
spelled low high most text n true true true true is some digits least greatest fits passes =
    let m = number_behind 0 text in
    let above : low ≤ m = subst (λ k. low ≤ k) is (leb-true low n least) in
    let below : m ≤ high = subst (λ k. k ≤ high) is (leb-true n high greatest) in
    let from_zero : nat_le 0 m ≡ true = le-leb 0 m (omega arith) in
    let to_most : nat_le m most ≡ true = le-leb m most (omega (arith, below, fits)) in
    ((λ i. if_all m (some i) (digits i) (from_zero i) (to_most i)), above, below)
spelled low high most text n true true true false is some digits least greatest fits passes = absurd (cc)
spelled low high most text n true true false d is some digits least greatest fits passes = absurd (cc)
spelled low high most text n true false c d is some digits least greatest fits passes = absurd (cc)
spelled low high most text n false b c d is some digits least greatest fits passes = absurd (cc)

spells : (low high most : ℕ) (text : Text) → high ≤ most → has_value (Number low high) text ≡ true
    → (number_in 0 most text ≡ Some (number_behind 0 text)) × (low ≤ number_behind 0 text) × (number_behind 0 text ≤ high)
spells low high most text fits passes =
    spelled low high most text (number_behind 0 text) _ _ _ _ refl refl refl refl refl fits passes

-- the numbers of words that were read by a form
module _ (form : Form) (asked : List Text) (m : ArgMatches) (r : AreRead form asked m) where
  pub told : {S : Type 0} (say : List Given → S) → said_by form say asked ≡ Some (say r.options)
  told say = ap (option_and_then (λ options. if obeys form options then Some (say options) else None)) r.given ∙ ap (λ b. if b then Some (say r.options) else None) r.obeyed

  pub text_told : (name : Text) → unwrap_or (value_at m name) [] ≡ text_of name r.options
  text_told name = ap (λ v. unwrap_or v []) (r.values name)

  module _ (k : ℕ) (name : Text) (needed : Bool) (low high : ℕ) (at : slice_get form k ≡ Some (record { name = name; needed = needed; kind = Number low high })) where
    met : option_map_or (has_value (Number low high)) (value_of name r.options) (not needed) ≡ true
    met = met-at r.options form (last-part (are_options form [] r.options) _ r.obeyed) k _ at

    pub number_told : (most : ℕ) → high ≤ most → option_and_then (number_in 0 most) (value_at m name) ≡ number_of name r.options
    number_told most fits = ap (option_and_then (number_in 0 most)) (r.values name) ∙ go (value_of name r.options) met
      where
        go : (v : Option Text) → option_map_or (has_value (Number low high)) v (not needed) ≡ true → option_and_then (number_in 0 most) v ≡ option_map (number_behind 0) v
        go None passes = refl
        go (Some text) passes = (spells low high most text fits passes).0

    -- it lies between its bounds, and is there where it is needed
    pub number_within : IfSome (number_of name r.options) (λ n. (low ≤ n) × (n ≤ high))
    number_within = go (value_of name r.options) met
      where
        go : (v : Option Text) → option_map_or (has_value (Number low high)) v (not needed) ≡ true → IfSome (option_map (number_behind 0) v) (λ n. (low ≤ n) × (n ≤ high))
        go None passes = tt
        go (Some text) passes = let s = spells low high high text (omega arith) passes in (s.1, s.2)

    pub number_needed : needed ≡ true → low ≤ unwrap_or (number_of name r.options) 0
    number_needed is = go (value_of name r.options) met
      where
        go : (v : Option Text) → option_map_or (has_value (Number low high)) v (not needed) ≡ true → low ≤ unwrap_or (option_map (number_behind 0) v) 0
        go None passes = absurd (cc)
        go (Some text) passes = (spells low high high text (omega arith) passes).1
