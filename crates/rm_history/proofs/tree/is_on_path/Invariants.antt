use Rattle.std.proofs.Common.{◌≡◌, ◌≤◌, length}
use Rattle.rm_history.specs.Tree.{is_on_path}
use Rattle.rm_history.proofs.tree.is_on_path.Given as goal

abbrev pub invariant-loop-at : goal.invariant-loop-at
invariant-loop-at l = record { same : is_on_path l.incarnations l.j l.at ≡ is_on_path l.incarnations l.j l.i; there : l.at ≤ length l.incarnations }

abbrev pub decreases-loop-at : goal.decreases-loop-at
decreases-loop-at l = l.at
