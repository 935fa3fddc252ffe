-- The words of `standby`, and what they say: `--store DIR --to DIR --catalog FILE (--make S | --roll N | --dump)`.
use Rattle.std.specs.Prelude.{ℕ, Bool, true, false, List, [], ◌∷◌, Option, Some, None, codes, is_some, option_and_then, option_map}
use Rattle.rm_lang_words.specs.{Options.{Given, Text}, Form.{Form, number_of, said_by, text_of, value_of}}
use Rattle.rm_lang_words.specs.declared.{form.Kind.TheVariants.{Text as AnyText, Number, Flag}, standby.StandbyTask.{StandbyTask}}
use Rattle.rm_lang_words.specs.declared.standby.StandbyTask.TheVariants.{Make, Roll, Dump}

-- two stores and a catalog; an SCN, to 2^64 - 1, the number of an increment, to 2^64 - 1, and a flag, where they are given
abbrev pub standby_form : Form
standby_form =
    record { name = codes "store"; needed = true; kind = AnyText }
    ∷ record { name = codes "to"; needed = true; kind = AnyText }
    ∷ record { name = codes "catalog"; needed = true; kind = AnyText }
    ∷ record { name = codes "make"; needed = false; kind = Number 0 18446744073709551615 }
    ∷ record { name = codes "roll"; needed = false; kind = Number 0 18446744073709551615 }
    ∷ record { name = codes "dump"; needed = false; kind = Flag } ∷ []

-- what they say: the stores, the catalog, and what is to be done
pub record StandbySaid : Type 0 where
  pub store : Text
  pub to : Text
  pub catalog : Text
  pub task : StandbyTask

-- the one task of those that are given. None where there is none, or more than one.
abbrev pub task_of : Option ℕ → Option ℕ → Bool → Option StandbyTask
task_of (Some scn) None false = Some (Make scn)
task_of None (Some increment) false = Some (Roll increment)
task_of None None true = Some Dump
task_of (Some scn) (Some increment) dump = None
task_of (Some scn) None true = None
task_of None (Some increment) true = None
task_of None None false = None

-- the task that the options give
abbrev pub task_in : List Given → Option StandbyTask
task_in options = task_of (number_of (codes "make") options) (number_of (codes "roll") options) (is_some (value_of (codes "dump") options))

abbrev pub standby_by : List Given → Option StandbySaid
standby_by options = option_map (λ task. record {
  store = text_of (codes "store") options;
  to = text_of (codes "to") options;
  catalog = text_of (codes "catalog") options;
  task = task;
}) (task_in options)

-- What the words say. None exactly where they are refused: they do not obey the form, or do not give exactly one task.
abbrev pub standby_said : List Text → Option StandbySaid
standby_said words = option_and_then standby_by (said_by standby_form (λ options. options) words)
