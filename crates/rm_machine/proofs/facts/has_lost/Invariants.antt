use Rattle.std.proofs.Common.{◌≤◌, ℕ}
use Rattle.rm_redo.specs.Online.{IsLost, IsThread}
use Rattle.rm_machine.proofs.facts.has_lost.Given as goal

abbrev pub invariant-loop-index : goal.invariant-loop-index
invariant-loop-index l = (t : ℕ) → t ≤ l.index → IsThread l.logs t → ¬ IsLost l.logs t
