use Rattle.std.proofs.Common.{◌≡◌, ◌≤◌, length}
use Rattle.rm_history.specs.Tree.{segment_end}
use Rattle.rm_history.proofs.tree.end_of_segment.Given as goal

abbrev pub invariant-loop-at : goal.invariant-loop-at
invariant-loop-at l = record { same : segment_end l.incarnations l.j l.at ≡ segment_end l.incarnations l.j l.i; there : l.at ≤ length l.incarnations }

abbrev pub decreases-loop-at : goal.decreases-loop-at
decreases-loop-at l = l.at
