use Rattle.std.proofs.Common.{◌≡◌, ◌≤◌, take}
use Rattle.rm_base.specs.Content.{trimmed}
use Rattle.rm_base.proofs.block.trimmed_len.Given as goal

abbrev pub invariant-loop-i : goal.invariant-loop-i
invariant-loop-i l = record { within : l.len ≤ l.i; same : take l.len l.bytes ≡ trimmed (take l.i l.bytes) }
