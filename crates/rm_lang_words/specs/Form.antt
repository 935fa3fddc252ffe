-- What the words of a program may say, as a form, and which options obey it.
use Rattle.std.specs.Prelude.{◌+◌, ◌-◌, ◌*◌, ◌&&◌, ◌++◌, ◌==◌, ℕ, Bool, true, false, not, List, [], ◌∷◌, Option, Some, None, if◌then◌else◌, nat_le, nat_lt, length, find, is_some, map, option_map, option_and_then, unwrap_or}
use Rattle.std.specs.{List.{list_all, list_any}, Option.{option_map_or}, Str.{all_ascii_digits, bytes_eq}}
use Rattle.rm_lang_words.specs.{Options.{Given, Text, given_in}, declared.form.{Entry.{Entry as EntryInCode}, Kind.{Kind}}}
use Rattle.rm_lang_words.specs.declared.form.Kind.TheVariants.{Text as AnyText, Number, Flag}

-- an option that may be given: its name, whether it has to be, and what its value is
pub record Entry : Type 0 where
  pub name : Text
  pub needed : Bool
  pub kind : Kind

-- the options that may be given, each under a name of its own
abbrev pub Form : Type 0
Form = List Entry

-- the entry, and the form, that the code has
abbrev pub entry_of : EntryInCode → Entry
entry_of e = record { name = e.name.now; needed = e.needed; kind = e.kind }

abbrev pub form_of : List EntryInCode → Form
form_of = map entry_of

-- an option of the kind has no value
abbrev pub is_flag_kind : Kind → Bool
is_flag_kind AnyText = false
is_flag_kind (Number low high) = false
is_flag_kind Flag = true

-- the entry is a flag of the name
abbrev pub is_flag_named : Text → Entry → Bool
is_flag_named name e = is_flag_kind e.kind && bytes_eq e.name name

-- the form has a flag of the name
abbrev pub is_flag : Form → Text → Bool
is_flag form name = list_any (is_flag_named name) form

-- ---- options by their names

abbrev pub has_name : Text → Given → Bool
has_name name option = bytes_eq option.0 name

abbrev pub is_named : Text → List Given → Bool
is_named name options = list_any (has_name name) options

-- the value of the option of this name, where it is given
abbrev pub value_of : Text → List Given → Option Text
value_of name options = option_map (λ o. o.1) (find (has_name name) options)

-- ---- values

-- the number that digits spell behind a number, where `0` is 48
abbrev pub number_behind : ℕ → Text → ℕ
number_behind front [] = front
number_behind front (digit ∷ digits) = number_behind (10 * front + (digit - 48)) digits

-- the number that decimal digits spell, if it is from low to high; leading zeros are allowed
abbrev pub number_in : ℕ → ℕ → Text → Option ℕ
number_in low high text =
    if nat_lt 0 (length text) && all_ascii_digits text && nat_le low (number_behind 0 text) && nat_le (number_behind 0 text) high
    then Some (number_behind 0 text) else None

-- the text is a value of the kind: any text is, or a number that lies between its bounds, or the empty text that a flag is given
abbrev pub has_value : Kind → Text → Bool
has_value AnyText text = true
has_value (Number low high) text = is_some (number_in low high text)
has_value Flag text = length text == 0

-- ---- options that obey a form

abbrev pub is_name : Form → Text → Bool
is_name form name = list_any (λ e. bytes_eq e.name name) form

-- the name of each option is one of the form, and was not given before it
abbrev pub are_options : Form → List Given → List Given → Bool
are_options form before [] = true
are_options form before (option ∷ rest) = is_name form option.0 && not (is_named option.0 before) && are_options form (before ++ option ∷ []) rest

-- the entry is given such a value, or it is given none and needs none
abbrev pub is_met_by : Option Text → Entry → Bool
is_met_by value e = option_map_or (has_value e.kind) value (not e.needed)

abbrev pub is_met : List Given → Entry → Bool
is_met options e = is_met_by (value_of e.name options) e

-- each option is one of the form and stands once, and each entry of the form is met
abbrev pub obeys : Form → List Given → Bool
obeys form options = are_options form [] options && list_all (is_met options) form

-- the words give options that obey the form
abbrev pub accepts : Form → List Text → Bool
accepts form words = option_map_or (obeys form) (given_in (is_flag form) words) false

-- ---- what is said by options

-- the text that is given under the name
abbrev pub text_of : Text → List Given → Text
text_of name options = unwrap_or (value_of name options) []

-- the number that the digits spell which are given under the name, where these are given
abbrev pub number_of : Text → List Given → Option ℕ
number_of name options = option_map (number_behind 0) (value_of name options)

-- the same, and 0 where it is not given
abbrev pub number_or_zero : Text → List Given → ℕ
number_or_zero name options = unwrap_or (number_of name options) 0

-- what the words say: what is said by the options that they give, where these obey the form
abbrev pub said_by : {S : Type 0} → Form → (List Given → S) → List Text → Option S
said_by form say words = option_and_then (λ options. if obeys form options then Some (say options) else None) (given_in (is_flag form) words)
