-- What the reader of options gives.
use Rattle.std.specs.Prelude.{◌≡◌, ◌++◌, ◌∷◌, Bool, true, List, [], Option, Some, None, Result, Ok, Err, map, option_map}
use Rattle.clap.specs.declared.parser.matches.ArgMatches.{ArgMatches}
use Rattle.rm_lang_words.specs.{Options.{Given, Text, given_behind, given_in}, Form.{Form, is_flag, obeys, value_of}}
use Rattle.rm_lang_words.specs.{Clap.{one_word, value_at}, Words.{Said}, Duplicate.{DuplicateSaid}, Standby.{StandbySaid}}
use Rattle.rm_lang_words.specs.{Resync.{ResyncSaid}, declared.faults.WordsFault.{WordsFault, TheVariants.{Bad, NoMemory}}}
use Rattle.rm_lang_words.specs.declared.{words.Words.{Words}, duplicate.DuplicateWords.{DuplicateWords}}
use Rattle.rm_lang_words.specs.declared.{standby.StandbyWords.{StandbyWords}, resync.ResyncWords.{ResyncWords}}

-- where it fails, the fault is of memory, or nothing was to be read
abbrev pub Fails : {X : Type 0} → WordsFault → Option X → Type 0
Fails Bad read = read ≡ None
Fails NoMemory read = Unit {0}

-- the result is what was to be read
abbrev pub Gives : {X Y : Type 0} → (X → Y) → Result X WordsFault → Option Y → Type 0
Gives view (Ok x) read = read ≡ Some (view x)
Gives view (Err e) read = Fails e read

-- what is said by words that were read
abbrev pub said_of : Words → Said
said_of w = record { store = w.store; catalog = w.catalog; channels = w.channels; drill = w.drill; database = w.database; control = w.control }

-- what is said by words of a duplicate that were read
abbrev pub duplicate_of : DuplicateWords → DuplicateSaid
duplicate_of w = record {
  store = w.store;
  to = w.to;
  catalog = w.catalog;
  dbid = w.dbid;
  number = w.number;
  until = w.until;
  from = w.from;
  incarnation = w.incarnation;
  channels = w.channels;
}

-- what is said by words of a standby that were read
abbrev pub standby_of : StandbyWords → StandbySaid
standby_of w = record { store = w.store; to = w.to; catalog = w.catalog; task = w.task }

-- what is said by words of a resync that were read
abbrev pub resync_of : ResyncWords → ResyncSaid
resync_of w = record { control = w.control; catalog = w.catalog }

-- the options as one word each, behind the words before them
abbrev pub words_behind : List Text → Option (List Given) → Option (List Text)
words_behind before options = option_map (λ rest. before ++ map one_word rest) options

-- the words that are left, behind the options before them and the name that waits, as options of one word each
abbrev pub with_left : (Text → Bool) → List Text → Option Text → List Text → Option (List Text)
with_left flags before waiting left = words_behind before (given_behind flags waiting left)

-- one word more is read: whatever is left behind it comes to the same
abbrev pub IsReadOn : (Text → Bool) → List Text → Option Text → Text → List Text → Option Text → Type 0
IsReadOn flags before waiting word after waits = (left : List Text) → with_left flags before waiting (word ∷ left) ≡ with_left flags after waits left

-- one word more is refused, whatever is left behind it
abbrev pub IsRefused : (Text → Bool) → List Text → Option Text → Text → Type 0
IsRefused flags before waiting word = (left : List Text) → with_left flags before waiting (word ∷ left) ≡ None

-- the words are the options that the program's words give by the form, each as one word
abbrev pub AreOf : Form → List Text → List Text → Type 0
AreOf form asked words = words_behind [] (given_in (is_flag form) asked) ≡ Some words

-- the program's words give options that obey the form, and `clap` found their values
pub record AreRead (form : Form) (asked : List Text) (matches : ArgMatches) : Type 0 where
  pub options : List Given
  pub given : given_in (is_flag form) asked ≡ Some options
  pub obeyed : obeys form options ≡ true
  pub values : (name : Text) → value_at matches name ≡ value_of name options
