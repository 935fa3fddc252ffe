-- The kinds of strings that statements have.
use Rattle.std.specs.{Prelude.{ℕ, ◌&&◌, nat_le, length, if◌then◌else◌, Bool, true, List, Some, None}, List.{list_all}}
use Rattle.rm_base.specs.Content.{padded, trimmed}
use Rattle.rm_lang_token.specs.{Tokens.{is_word_byte}, Spelling.{are_string_bytes}}
use Rattle.rm_lang_grammar.specs.Grammar.{TextKind}
use Rattle.rm_moments.specs.Times.{is_time_text}

-- the content that a VALUE has, which is shown without the zero bytes at its end
abbrev pub content : TextKind
content = record { read = λ w. Some (padded w).0; show = trimmed }

-- a string that passes the test, as it stands
abbrev pub tested : (List ℕ → Bool) → TextKind
tested test = record { read = λ w. if test w then Some w else None; show = λ w. w }

-- any string
abbrev pub anything : List ℕ → Bool
anything w = true

-- 1 to 64 letters, digits and underscores
abbrev pub is_new_name : List ℕ → Bool
is_new_name w = nat_le 1 (length w) && nat_le (length w) 64 && list_all is_word_byte w

-- any string
abbrev pub plain : TextKind
plain = tested anything

-- a name that an object can be given
abbrev pub new_name : TextKind
new_name = tested is_new_name

-- a text that means a moment
abbrev pub time : TextKind
time = tested is_time_text

-- a string of the kind, as it is kept
abbrev pub is_text : (List ℕ → Bool) → List ℕ → Bool
is_text test w = are_string_bytes w && test w
