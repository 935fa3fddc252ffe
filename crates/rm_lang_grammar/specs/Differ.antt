-- Lines that spell no token list both.
use Rattle.std.specs.{Prelude.{ℕ, List, [], ◌&&◌, ◌||◌, not, Bool, false}, Str.{str_eq_ignore_ascii_case}}
use Rattle.rm_lang_grammar.specs.Grammar.{Grammar, end, semicolon, word, flag, noise, number, number_or, text, tag, named, optional, either, numbers, sign, many}
use Rattle.rm_lang_grammar.specs.Clear.{firsts, apart, keyed}

-- a word stands first in b, and it is none that may stand first in a
abbrev pub differ_here : Grammar → Grammar → Bool
differ_here a b = keyed b && apart (firsts b []) (firsts a [])

-- a line that begins with the word k, where rest compares what follows it
abbrev pub differ_word : List ℕ → Grammar → (Grammar → Bool) → Grammar → Bool
differ_word k g rest end = false
differ_word k g rest semicolon = false
differ_word k g rest (word j h) = not (str_eq_ignore_ascii_case k j) || rest h
differ_word k g rest (flag j h) = differ_here (flag j h) (word k g)
differ_word k g rest (noise j h) = differ_here (noise j h) (word k g)
differ_word k g rest (number p h) = differ_here (number p h) (word k g)
differ_word k g rest (number_or j d p h) = differ_here (number_or j d p h) (word k g)
differ_word k g rest (text p h) = differ_here (text p h) (word k g)
differ_word k g rest (tag h) = differ_here (tag h) (word k g)
differ_word k g rest (named j h) = differ_here (named j h) (word k g)
differ_word k g rest (optional a h) = differ_here (optional a h) (word k g)
differ_word k g rest (either a b h) = differ_here (either a b h) (word k g)
differ_word k g rest (numbers h) = differ_here (numbers h) (word k g)
differ_word k g rest (sign c h) = differ_here (sign c h) (word k g)
differ_word k g rest (many j a h) = differ_here (many j a h) (word k g)

-- the words in which they begin alike are left out
abbrev pub differ : Grammar → Grammar → Bool
differ (word k g) b = differ_word k g (differ g) b
differ end b = false
differ semicolon b = differ_here semicolon b
differ (flag k g) b = differ_here (flag k g) b
differ (noise k g) b = differ_here (noise k g) b
differ (number p g) b = differ_here (number p g) b
differ (number_or k d p g) b = differ_here (number_or k d p g) b
differ (text p g) b = differ_here (text p g) b
differ (tag g) b = differ_here (tag g) b
differ (named k g) b = differ_here (named k g) b
differ (optional a g) b = differ_here (optional a g) b
differ (either a c g) b = differ_here (either a c g) b
differ (numbers g) b = differ_here (numbers g) b
differ (sign c g) b = differ_here (sign c g) b
differ (many k a g) b = differ_here (many k a g) b
