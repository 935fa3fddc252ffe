-- The words of `run`, `--store DIR --catalog FILE [--channels N] [--drill N] [--database N] [--control FILE]`, and what they say.
use Rattle.std.specs.Prelude.{ℕ, true, false, List, [], ◌∷◌, Option, codes}
use Rattle.rm_lang_words.specs.{Options.{Given, Text}, Form.{Form, number_of, said_by, text_of, value_of}}
use Rattle.rm_lang_words.specs.declared.form.Kind.TheVariants.{Text as AnyText, Number}

-- a store and a catalog, and where they are given 1 to 16 channels, a drill from 0 to 2^64 - 1, a database from 0 to 2^32 - 1
-- and a control file
abbrev pub run_form : Form
run_form =
    record { name = codes "store"; needed = true; kind = AnyText }
    ∷ record { name = codes "catalog"; needed = true; kind = AnyText }
    ∷ record { name = codes "channels"; needed = false; kind = Number 1 16 }
    ∷ record { name = codes "drill"; needed = false; kind = Number 0 18446744073709551615 }
    ∷ record { name = codes "database"; needed = false; kind = Number 0 4294967295 }
    ∷ record { name = codes "control"; needed = false; kind = AnyText } ∷ []

-- what they say: the store and the catalog, and the channels, the drill, which database of the catalog serves and the control file,
-- where these are given
pub record Said : Type 0 where
  pub store : Text
  pub catalog : Text
  pub channels : Option ℕ
  pub drill : Option ℕ
  pub database : Option ℕ
  pub control : Option Text

abbrev pub run_said : List Given → Said
run_said options = record {
  store = text_of (codes "store") options;
  catalog = text_of (codes "catalog") options;
  channels = number_of (codes "channels") options;
  drill = number_of (codes "drill") options;
  database = number_of (codes "database") options;
  control = value_of (codes "control") options;
}

-- What the words say. None exactly where they are refused.
abbrev pub said : List Text → Option Said
said words = said_by run_form run_said words
