use Rattle.std.proofs.Common.{◌≡◌, ◌+◌, ◌-◌, ◌∙◌, suc, arith, length}
use Rattle.rm_step_tell.proofs.IncarnationLines.{lines-next}
use Rattle.rm_step_tell.proofs.incarnations.lines_of_all.Goals as goal

pub loop-inc-preserved : goal.loop-inc-preserved
loop-inc-preserved c =
    let tree = c.args.tree.now in
    let i = c.loop-inc.inc in
    let n = length tree in
    let e : n + 1 - i ≡ suc (n + 1 - (i + 1)) = omega arith in
    lines-next tree c.args.current i (n + 1 - i) (n + 1 - (i + 1)) c.loop-inc.lines c.push_incarnation.new.lines e c.in_ok-push_incarnation.ensures ∙ c.loop-inc.invariant
