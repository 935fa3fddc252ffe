use Rattle.std.{specs.String.{string_bytes}, proofs.Common.{◌≡◌, ◌∷◌, take}}
use Rattle.rm_lang_token.proofs.scan.word_of.Given as goal

abbrev pub invariant-loop-byte : goal.invariant-loop-byte
invariant-loop-byte l = string_bytes l.word ≡ l.letter ∷ take l.byte-index l.rest
