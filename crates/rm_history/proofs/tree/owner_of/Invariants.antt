use Rattle.std.proofs.Common.{◌≡◌, ◌≤◌, length}
use Rattle.rm_history.specs.Tree.{owner}
use Rattle.rm_history.proofs.tree.owner_of.Given as goal

abbrev pub invariant-loop-at : goal.invariant-loop-at
invariant-loop-at l = record { same : owner l.incarnations l.at l.g ≡ owner l.incarnations l.i l.g; there : l.at ≤ length l.incarnations }

abbrev pub decreases-loop-at : goal.decreases-loop-at
decreases-loop-at l = l.at
