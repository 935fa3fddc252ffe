use Rattle.std.proofs.Common.{◌+◌, ◌<◌, ◌∙◌, ap, arith, sym}
use Rattle.rm_tool_duplicate.{specs.Refused.{is_among}, proofs.Naming.{next-name}}
use Rattle.rm_tool_duplicate.proofs.refusing.first_taken.Goals as goal

pub loop-number-preserved : goal.loop-number-preserved
loop-number-preserved c =
    let names = c.args.names.now in
    let k = c.loop-number.number in
    let less : k < c.args.n + 1 = omega (arith, c.loop-number-test.true) in
    sym (next-name (is_among names) k (c.args.n + 1) less (ap (is_among names) (sym (c.as_str.ensures ∙ c.in_ok-name.ensures)) ∙ sym c.is_among.ensures ∙ c.if-is_among.false)) ∙ c.loop-number.invariant
