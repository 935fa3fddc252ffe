-- A line of the grammar is clear where one token ahead tells what stands there.
use Rattle.std.specs.Prelude.{ℕ, List, [], ◌∷◌, ◌++◌, codes, IsTrue, ◌==◌, ◌&&◌, ◌||◌, ◌⊎◌, not, Bool, true, false}
use Rattle.std.specs.Str.{str_eq_ignore_ascii_case}
use Rattle.rm_lang_token.specs.{Statements.{is_word}, declared.token.Token.{Token, TheVariants.{Word, Number, Quoted, Sign, Bad}}}
use Rattle.rm_lang_grammar.specs.Grammar.{Grammar, end, semicolon, word, flag, noise, number, number_or, text, tag, named, optional, either, numbers, sign, many}

-- the token is one of the words
abbrev pub among : List (List ℕ) → Token → Bool
among [] t = false
among (k ∷ ks) t = is_word k t || among ks t

-- a word at the front is one of these, and no comma stands there
abbrev pub OpensAs : List (List ℕ) → List Token → Type 0
OpensAs ks [] = Unit {0}
OpensAs ks (Word w ∷ ts) = IsTrue (among ks (Word w))
OpensAs ks (Sign c ∷ ts) = IsTrue (not (c == 44))
OpensAs ks (Number n ∷ ts) = Unit {0}
OpensAs ks (Quoted w ∷ ts) = Unit {0}
OpensAs ks (Bad ∷ ts) = Unit {0}

-- the words that may stand first, where those of follow may stand behind the line
abbrev pub firsts : Grammar → List (List ℕ) → List (List ℕ)
firsts end follow = follow
firsts semicolon follow = []
firsts (word k g) follow = k ∷ []
firsts (flag k g) follow = k ∷ firsts g follow
firsts (noise k g) follow = k ∷ firsts g follow
firsts (number p g) follow = []
firsts (number_or k d p g) follow = k ∷ firsts g follow
firsts (text p g) follow = []
firsts (tag g) follow = codes "TAG" ∷ []
firsts (named k g) follow = k ∷ []
firsts (optional a g) follow = firsts a (firsts g follow) ++ firsts g follow
firsts (either a b g) follow = firsts a (firsts g follow) ++ firsts b (firsts g follow)
firsts (numbers g) follow = []
firsts (sign c g) follow = []
firsts (many k a g) follow = k ∷ firsts g follow

-- the word is none of these, in any case of its letters
abbrev pub unlike : List ℕ → List (List ℕ) → Bool
unlike k [] = true
unlike k (j ∷ js) = not (str_eq_ignore_ascii_case k j) && unlike k js

-- no word is in both lists
abbrev pub apart : List (List ℕ) → List (List ℕ) → Bool
apart [] js = true
apart (k ∷ ks) js = unlike k js && apart ks js

-- a word stands first
abbrev pub keyed : Grammar → Bool
keyed end = false
keyed semicolon = false
keyed (word k g) = true
keyed (flag k g) = false
keyed (noise k g) = false
keyed (number p g) = false
keyed (number_or k d p g) = false
keyed (text p g) = false
keyed (tag g) = true
keyed (named k g) = true
keyed (optional a g) = false
keyed (either a b g) = keyed a && keyed b
keyed (numbers g) = false
keyed (sign c g) = false
keyed (many k a g) = false

-- one token ahead tells which part stands there, where the words of follow may stand behind the line
abbrev pub clear : Grammar → List (List ℕ) → Bool
clear end follow = true
clear semicolon follow = true
clear (word k g) follow = clear g follow
clear (flag k g) follow = unlike k (firsts g follow) && clear g follow
clear (noise k g) follow = unlike k (firsts g follow) && clear g follow
clear (number p g) follow = clear g follow
clear (number_or k d p g) follow = unlike k (firsts g follow) && clear g follow
clear (text p g) follow = clear g follow
clear (tag g) follow = clear g follow
clear (named k g) follow = clear g follow
clear (optional a g) follow = (keyed a && apart (firsts a (firsts g follow)) (firsts g follow)) && (clear a (firsts g follow) && clear g follow)
clear (either a b g) follow = (keyed a && apart (firsts a (firsts g follow)) (firsts b (firsts g follow))) && (clear a (firsts g follow) && (clear b (firsts g follow) && clear g follow))
clear (numbers g) follow = clear g follow
clear (sign c g) follow = clear g follow
clear (many k a g) follow = unlike k (firsts g follow) && (clear a (k ∷ firsts g follow) && clear g follow)

-- the line ends with a sign of its own
abbrev pub closed : Grammar → Bool
closed end = false
closed semicolon = true
closed (word k g) = closed g
closed (flag k g) = closed g
closed (noise k g) = closed g
closed (number p g) = closed g
closed (number_or k d p g) = closed g
closed (text p g) = closed g
closed (tag g) = closed g
closed (named k g) = closed g
closed (optional a g) = closed g
closed (either a b g) = closed g
closed (numbers g) = closed g
closed (sign c g) = closed g
closed (many k a g) = closed g

-- behind the line stands one of these words or no word, or the line ends with a sign of its own
abbrev pub Follows : Grammar → List (List ℕ) → List Token → Type 0
Follows g follow rest = IsTrue (closed g) ⊎ OpensAs follow rest
