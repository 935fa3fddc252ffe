-- Lines in whose spellings a statement ends at the last token, or nowhere.
use Rattle.std.specs.Prelude.{ℕ, ◌==◌, ◌&&◌, ◌||◌, not, Bool, false, Option, Some, None}
use Rattle.rm_lang_token.specs.{Statements.{is_the_sign, depth_after}, declared.token.Token.{Token, TheVariants.{Sign}}}
use Rattle.rm_lang_grammar.specs.Grammar.{Grammar, end, semicolon, word, flag, noise, number, number_or, text, tag, named, optional, either, numbers, sign, many}

-- a statement that begins with RUN, or with none, ends at the token where so many braces are open
abbrev pub stops : Bool → ℕ → Token → Bool
stops run d t = ((d == 0) && is_the_sign 59 t) || (run && (d == 1) && is_the_sign 125 t)

-- From so many open braces the line leads to so many, and no statement ends in it; or, at None, one ends at its last token alone.
abbrev pub quiet : Bool → Grammar → ℕ → Option ℕ → Bool
quiet run end d None = false
quiet run end d (Some e) = d == e
quiet run semicolon d None = stops run d (Sign 59)
quiet run semicolon d (Some e) = not (stops run d (Sign 59)) && (d == e)
quiet run (word k g) d goal = quiet run g d goal
quiet run (flag k g) d goal = quiet run g d goal
quiet run (noise k g) d goal = quiet run g d goal
quiet run (number p g) d goal = quiet run g d goal
quiet run (number_or k n p g) d goal = quiet run g d goal
quiet run (text p g) d goal = quiet run g d goal
quiet run (tag g) d goal = quiet run g d goal
quiet run (named k g) d goal = quiet run g d goal
quiet run (optional a g) d goal = quiet run a d (Some d) && quiet run g d goal
quiet run (either a b g) d goal = quiet run a d (Some d) && (quiet run b d (Some d) && quiet run g d goal)
quiet run (numbers g) d goal = quiet run g d goal
quiet run (sign c g) d goal = not (stops run d (Sign c)) && quiet run g (depth_after d (Sign c)) goal
quiet run (many k a g) d goal = quiet run a d (Some d) && quiet run g d goal
