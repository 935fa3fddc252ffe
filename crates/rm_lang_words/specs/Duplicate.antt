-- The words of `duplicate`, and what they say:
-- `--store DIR --to DIR --catalog FILE --dbid D --number N --until S [--from M] [--incarnation I] [--channels C]`.
use Rattle.std.specs.Prelude.{ℕ, true, false, List, [], ◌∷◌, Option, codes}
use Rattle.rm_lang_words.specs.{Options.{Given, Text}, Form.{Form, number_of, number_or_zero, said_by, text_of}}
use Rattle.rm_lang_words.specs.declared.form.Kind.TheVariants.{Text as AnyText, Number}

-- two stores and a catalog; the duplicate's dbid from 1 and its number, to 2^32 - 1 each, and an SCN to 2^64 - 1; and where they are given
-- the number of the source, to 2^32 - 1, an incarnation, to 2^64 - 1, and 1 to 16 channels
abbrev pub duplicate_form : Form
duplicate_form =
    record { name = codes "store"; needed = true; kind = AnyText }
    ∷ record { name = codes "to"; needed = true; kind = AnyText }
    ∷ record { name = codes "catalog"; needed = true; kind = AnyText }
    ∷ record { name = codes "dbid"; needed = true; kind = Number 1 4294967295 }
    ∷ record { name = codes "number"; needed = true; kind = Number 0 4294967295 }
    ∷ record { name = codes "until"; needed = true; kind = Number 0 18446744073709551615 }
    ∷ record { name = codes "from"; needed = false; kind = Number 0 4294967295 }
    ∷ record { name = codes "incarnation"; needed = false; kind = Number 0 18446744073709551615 }
    ∷ record { name = codes "channels"; needed = false; kind = Number 1 16 } ∷ []

-- what they say: the stores, the catalog, the duplicate's dbid and number, the target's SCN, the number of the source, which is 0 where it
-- is not given, and the incarnation and the channels, where these are given
pub record DuplicateSaid : Type 0 where
  pub store : Text
  pub to : Text
  pub catalog : Text
  pub dbid : ℕ
  pub number : ℕ
  pub until : ℕ
  pub from : ℕ
  pub incarnation : Option ℕ
  pub channels : Option ℕ

abbrev pub duplicate_by : List Given → DuplicateSaid
duplicate_by options = record {
  store = text_of (codes "store") options;
  to = text_of (codes "to") options;
  catalog = text_of (codes "catalog") options;
  dbid = number_or_zero (codes "dbid") options;
  number = number_or_zero (codes "number") options;
  until = number_or_zero (codes "until") options;
  from = number_or_zero (codes "from") options;
  incarnation = number_of (codes "incarnation") options;
  channels = number_of (codes "channels") options;
}

-- What the words say. None exactly where they are refused.
abbrev pub duplicate_said : List Text → Option DuplicateSaid
duplicate_said words = said_by duplicate_form duplicate_by words
