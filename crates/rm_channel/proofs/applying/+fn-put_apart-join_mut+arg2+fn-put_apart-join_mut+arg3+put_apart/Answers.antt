use Rattle.std.proofs.Common.{arith, rules}
use Rattle.rm_channel.proofs.Puts.{parts-joined}
use Rattle.rm_channel.proofs.applying.+fn-put_apart-join_mut+arg2+fn-put_apart-join_mut+arg3+put_apart.Goals as goal

pub returns : goal.returns
returns g t c =
    let halves = c.split_at_mut-front.result in
    let shares = c.shares.result in
    let long = c.split_at_mut-front.ensures.front_len in
    parts-joined c.args.parts.now shares.0.now shares.1.now c.args.first halves.0.now halves.1.now c.args.rows.now c.front-1.given.0 c.back-1.given.0 (search rules)
    (c.shares.ensures.front _ _ (omega (arith, long))) (c.shares.ensures.back _ _ (omega (arith, long))) (search rules) (search rules)
