use Rattle.std.proofs.Common.{◌<◌, ◌≤◌, ◌+◌, length, get_or, arith}
use Rattle.rm_plan.{specs.declared.span.Span.{Span}, proofs.Spans.{common_step, next_first, next_second}}
use Rattle.rm_plan.proofs.span.common_spans.Goals as goal

abbrev blank : Span
blank = record { start = 0; end = 0 }

pub loop-a-preserved-then-x-y : goal.loop-a-preserved-then-x-y
loop-a-preserved-then-x-y c = λ g.
    let xs = c.args.xs.now in
    let ys = c.args.ys.now in
    let left : c.loop-a.a < length xs = omega arith in
    let right : c.loop-a.b < length ys = omega arith in
    common_step xs ys c.loop-a.out.items c.push.new.self.items c.loop-a.a c.loop-a.b (c.loop-a.a + 1) c.loop-a.b c.overlap.result g (c.loop-a.invariant g)
    (next_first xs ys c.loop-a.a c.loop-a.b blank c.overlap.result g left right (c.overlap.ensures g) c.requires.second c.if-x-y.true)
    c.in_ok-push.ensures.items

pub loop-a-preserved : goal.loop-a-preserved
loop-a-preserved c = λ g.
    let xs = c.args.xs.now in
    let ys = c.args.ys.now in
    let left : c.loop-a.a < length xs = omega arith in
    let right : c.loop-a.b < length ys = omega arith in
    let le : (get_or ys c.loop-a.b blank).end ≤ (get_or xs c.loop-a.a blank).end = omega (arith, c.if-x-y.false) in
    common_step xs ys c.loop-a.out.items c.push.new.self.items c.loop-a.a c.loop-a.b c.loop-a.a (c.loop-a.b + 1) c.overlap.result g (c.loop-a.invariant g)
    (next_second xs ys c.loop-a.a c.loop-a.b blank c.overlap.result g left right (c.overlap.ensures g) c.requires.first le)
    c.in_ok-push.ensures.items
