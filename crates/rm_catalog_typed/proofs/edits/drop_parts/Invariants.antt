use Rattle.std.{specs.Vec.{vec_capacity, vec_len}, proofs.Common.{◌≡◌, ◌+◌, ◌≤◌, ◌++◌, map, take}}
use Rattle.rm_catalog_typed.specs.Changes.{part_drop}
use Rattle.rm_catalog_typed.proofs.edits.drop_parts.Given as goal

abbrev pub invariant-loop-part : goal.invariant-loop-part
invariant-loop-part l = (l.edits.items ≡ l.fn.edits.items ++ map part_drop (take l.part-index l.parts)) × (vec_len l.edits ≡ vec_len l.fn.edits + l.part-index) × (vec_capacity l.fn.edits ≤ vec_capacity l.edits)
