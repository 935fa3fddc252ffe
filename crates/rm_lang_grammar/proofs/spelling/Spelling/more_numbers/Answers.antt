use Rattle.std.proofs.Common.{◌<◌, length, arith, append_assoc}
use Rattle.rm_lang_grammar.proofs.Listed.{more_push}
use Rattle.rm_lang_grammar.proofs.spelling.Spelling.more_numbers.Goals as goal

pub loop-number-preserved : goal.loop-number-preserved
loop-number-preserved c =
    let here : c.loop-number.number-index < length c.args.numbers.now = omega arith in
    let told = simp append_assoc at (rw c.loop-number.invariant at (rw c.in_ok-sign.ensures at c.in_ok-number.ensures)) in
    rw (more_push c.args.numbers.now c.loop-number.number-index 0 here) told
