use Rattle.std.proofs.Common.{◌≡◌, ◌+◌, ◌∙◌, ap, arith, rules}
use Rattle.rm_channel.specs.Jobs.{lists}
use Rattle.rm_machine.{specs.Asked.{asked, by_thread}, proofs.ByThread.{lists-few, lists-next}}
use Rattle.rm_machine.proofs.writers.writers_in.Goals as goal

pub loop-index-preserved : goal.loop-index-preserved
loop-index-preserved c =
    let n = c.loop-index.index in
    let v = c.in_ok-by_thread.field-0 in
    let at : c.from.result ≡ n = search rules in
    let one : v.items ≡ by_thread (n + 1) (asked c.args.during.now) =
    c.in_ok-by_thread.ensures ∙ ap (λ k. by_thread (k + 1) c.asked-writes.result.now) at ∙ ap (by_thread (n + 1)) c.asked-writes.ensures in
    ap lists c.in_ok-push.ensures.items ∙ lists-next n (asked c.args.during.now) c.loop-index.writers.items v c.loop-index.invariant one

pub returns-clause-few : goal.returns-clause-few
returns-clause-few c = lists-few c.loop-index.index (asked c.args.during.now) c.loop-index.writers.items (omega arith) c.loop-index.invariant
