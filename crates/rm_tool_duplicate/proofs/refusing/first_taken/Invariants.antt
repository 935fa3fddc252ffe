use Rattle.std.proofs.Common.{◌≡◌, ◌+◌, ◌-◌}
use Rattle.rm_tool_duplicate.specs.Refused.{first_taken, is_among}
use Rattle.rm_tool_duplicate.proofs.refusing.first_taken.Given as goal

abbrev pub invariant-loop-number : goal.invariant-loop-number
invariant-loop-number l = first_taken (is_among l.names) l.number (l.n + 1 - l.number) ≡ first_taken (is_among l.names) 1 l.n
