use Rattle.std.proofs.Common.{◌+◌}
use Rattle.rm_history.{specs.Tree.{IsThere}, proofs.Shared.{IsFork}}
use Rattle.rm_history.proofs.tree.shared_of.Given as goal

abbrev pub invariant-loop-a : goal.invariant-loop-a
invariant-loop-a l = record { first : IsThere l.incarnations l.a; second : IsThere l.incarnations l.b; fork : IsFork l.incarnations l.i l.j l.a l.b l.fork }

abbrev pub decreases-loop-a : goal.decreases-loop-a
decreases-loop-a l = l.a + l.b
