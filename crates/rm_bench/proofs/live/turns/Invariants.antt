use Rattle.std.specs.Prelude.{◌≡◌}
use Rattle.rm_bench.proofs.live.turns.Given as goal

abbrev pub invariant-loop-k : goal.invariant-loop-k
invariant-loop-k g l = l.pass.home ≡ l.fn.pass.home
