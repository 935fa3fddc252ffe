use Rattle.std.proofs.Common.{◌≡◌, ◌++◌, length}
use Rattle.rm_lang_grammar.specs.Reading.{more_at}
use Rattle.rm_lang_grammar.proofs.reading.more_numbers.Given as goal

abbrev pub invariant-loop-rest : goal.invariant-loop-rest
invariant-loop-rest l = record {
  numbers : l.numbers.items ++ (more_at l.rest).0 ≡ l.fn.numbers.items ++ (more_at l.fn.tokens).0;
  rest : (more_at l.rest).1 ≡ (more_at l.fn.tokens).1;
}

abbrev pub decreases-loop-rest : goal.decreases-loop-rest
decreases-loop-rest l = length l.rest
