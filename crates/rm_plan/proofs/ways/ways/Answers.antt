use Rattle.std.proofs.{Common.{◌≡◌, ◌<◌, ◌+◌, ◌∙◌, List, ℕ, length, get_or, ap, sym, subst, arith}, lemmas.List.{length_push}}
use Rattle.rm_plan.{specs.{Ways.{IsWay, nowhere}, declared.span.Span.{Span}}, proofs.Agreeing.{more_ways, are_ways}}
use Rattle.rm_plan.proofs.ways.ways.Goals as goal

pub loop-index-preserved : goal.loop-index-preserved
loop-index-preserved c =
    let old = c.loop-index.ways.items in
    let e = c.in_ok-push.ensures.items in
    let way = subst (λ n. IsWay c.args.tree.now c.args.i c.args.s (n + 1) c.way.result) (sym c.loop-index.invariant.len) c.way.ensures in
    record {
      len = ap (λ (xs : List Span). length xs) e ∙ length_push old c.way.result ∙ ap (λ n. n + 1) c.loop-index.invariant.len;
      each = subst (λ (xs : List Span). (k : ℕ) → k < length xs → IsWay c.args.tree.now c.args.i c.args.s (k + 1) (get_or xs k nowhere)) (sym e)
          (more_ways (IsWay c.args.tree.now c.args.i c.args.s) old c.way.result c.loop-index.invariant.each way);
    }

pub returns : goal.returns
returns c =
    let test = c.loop-index-test.false in
    let long : length c.loop-index.ways.items ≡ length c.args.tree.now = c.loop-index.invariant.len ∙ omega (arith, test, c.loop-index.auto.index-end) ∙ c.count-index-end.ensures.count in
    are_ways c.args.tree.now c.args.i c.args.s c.loop-index.ways.items long c.loop-index.invariant.each
