-- The words of the program.
use Rattle.std.specs.{Prelude.{ℕ, ◌≡◌, is_some, Bool, List, Option, Some}, Option.{option_and_then, option_map}}
use Rattle.rm_lang_words.specs.Words.{said}

-- the words say a store and a catalog, and channels, a drill and a database or none
abbrev pub accepts : List (List ℕ) → Bool
accepts words = is_some (said words)

-- the words are accepted, and say so many channels, or none
abbrev pub SaysChannels : List (List ℕ) → Option ℕ → Type 0
SaysChannels words channels = option_map (λ s. s.channels) (said words) ≡ Some channels

-- the drill that they say, if they do
abbrev pub drill_of : List (List ℕ) → Option ℕ
drill_of words = option_and_then (λ s. s.drill) (said words)
