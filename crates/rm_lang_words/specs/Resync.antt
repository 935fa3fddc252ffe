-- The words of `resync`, `--control FILE --catalog FILE`, and what they say.
use Rattle.std.specs.Prelude.{true, List, [], ◌∷◌, Option, codes}
use Rattle.rm_lang_words.specs.{Options.{Given, Text}, Form.{Form, said_by, text_of}, declared.form.Kind.TheVariants.{Text as AnyText}}

-- a control file and a catalog
abbrev pub resync_form : Form
resync_form =
    record { name = codes "control"; needed = true; kind = AnyText }
    ∷ record { name = codes "catalog"; needed = true; kind = AnyText } ∷ []

-- what they say: the control file and the catalog
pub record ResyncSaid : Type 0 where
  pub control : Text
  pub catalog : Text

abbrev pub resync_by : List Given → ResyncSaid
resync_by options = record { control = text_of (codes "control") options; catalog = text_of (codes "catalog") options }

-- What the words say. None exactly where they are refused.
abbrev pub resync_said : List Text → Option ResyncSaid
resync_said words = said_by resync_form resync_by words
