-- The command line as `clap` reads it, and the words that it is handed.
use Rattle.std.specs.{Prelude.{◌++◌, Bool, List, Option, ◌∷◌, Some, true, codes, fold}, List.{list_all}}
use Rattle.clap.specs.Kinds.{Kinds}
use Rattle.clap.specs.Words.{App, Rule, fault_of, first_of, first_value, found_of, matches_of, new_app, new_rule, with_rule}
use Rattle.clap.specs.{Simple.{on_top}, declared.{builder.ArgAction.TheVariants.{Set}, parser.matches.ArgMatches.{ArgMatches}}}
use Rattle.rm_lang_words.specs.{Options.{Given, Text}, Form.{Entry, Form, is_met_by}}

-- the option as one word, `--name=value`
abbrev pub one_word : Given → Text
one_word option = 45 ∷ 45 ∷ (option.0 ++ 61 ∷ option.1)

-- the argument of an entry
abbrev pub rule_of_entry : Entry → Rule
rule_of_entry e = record (new_rule e.name) { long = Some e.name; action = Some Set; required = e.needed }

abbrev pub base : App
base = on_top (λ s. record s { no_binary_name = true; disable_help_flag = true; disable_version_flag = true }) (new_app (codes "rman"))

-- the command of a form: an argument for each entry
abbrev pub app_of_form : Form → App
app_of_form form = fold (λ app e. with_rule app (rule_of_entry e)) base form

-- the faults that `clap` finds in the words
unfoldable pub faults : Form → List Text → Kinds
faults form words = fault_of (app_of_form form) words

-- the value that `clap` finds under the name
unfoldable pub found : Form → Text → List Text → Option Text
found form name words = first_of name (matches_of (app_of_form form) words)

-- each entry is met by what `clap` finds under its name
abbrev pub all_met : Form → List Text → Bool
all_met form words = list_all (λ e. is_met_by (found form e.name words) e) form

-- the value of this name among the matches of `clap`
abbrev pub value_at : ArgMatches → Text → Option Text
value_at matches name = first_value (found_of matches) name
