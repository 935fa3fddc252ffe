use Rattle.std.proofs.Common.{◌≡◌, ◌++◌, take}
use Rattle.rm_lang_grammar.specs.Spelling.{more_spelled}
use Rattle.rm_lang_grammar.proofs.spelling.Spelling.more_numbers.Given as goal

abbrev pub invariant-loop-number : goal.invariant-loop-number
invariant-loop-number l = l.self ≡ l.fn.self ++ more_spelled (take l.number-index l.numbers)
