use Rattle.std.proofs.Common.{List, drop}
use Rattle.rm_lang_token.specs.declared.token.Token.{Token}
use Rattle.rm_lang_reading.specs.Phrases.{Stand, Fail}
use Rattle.rm_lang_reading.proofs.phrases.words.Given as goal

-- what is told of the words that are left is told of all
abbrev pub invariant-loop-name : goal.invariant-loop-name
invariant-loop-name l =
    ((us : List Token) → Stand (drop l.name-index l.names) l.rest us → Stand l.names l.fn.tokens us)
    × (Fail (drop l.name-index l.names) l.rest → Fail l.names l.fn.tokens)
