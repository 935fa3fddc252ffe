use Rattle.std.proofs.Common.{◌≡◌, drop}
use Rattle.rm_lang_statement.specs.Named.{ascend_above}
use Rattle.rm_lang.proofs.valid.ascend_above.Given as goal

abbrev pub invariant-loop-number : goal.invariant-loop-number
invariant-loop-number l = ascend_above l.last (drop l.number-index l.numbers) ≡ ascend_above l.fn.least l.fn.numbers
