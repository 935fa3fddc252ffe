use Rattle.std.proofs.Common.{◌≡◌, take}
use Rattle.rm_catalog.proofs.copies.records.Given as goal

abbrev pub invariant-loop-row : goal.invariant-loop-row
invariant-loop-row l = l.made.items ≡ take l.row-index l.records
