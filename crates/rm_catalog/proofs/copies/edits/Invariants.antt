use Rattle.std.proofs.Common.{◌≡◌, take}
use Rattle.rm_catalog.proofs.copies.edits.Given as goal

abbrev pub invariant-loop-edit : goal.invariant-loop-edit
invariant-loop-edit l = l.made.items ≡ take l.edit-index l.edits
