use Rattle.std.proofs.Common.{◌≡◌}
use Rattle.rm_history.specs.State.{states}
use Rattle.rm_history.proofs.world.World.states.Given as goal

-- the rows of the blocks so far
abbrev pub invariant-loop-block : goal.invariant-loop-block
invariant-loop-block l = l.rows.items ≡ states l.self l.history l.i l.s l.file l.block
