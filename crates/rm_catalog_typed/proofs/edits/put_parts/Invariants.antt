use Rattle.std.{specs.Vec.{vec_capacity, vec_len}, proofs.Common.{◌≡◌, ◌+◌, ◌≤◌, ◌++◌, map, take}}
use Rattle.rm_catalog.specs.declared.record.Edit.TheVariants.{Put}
use Rattle.rm_catalog.specs.declared.record.Record.TheVariants as kind
use Rattle.rm_catalog_typed.proofs.edits.put_parts.Given as goal

abbrev pub invariant-loop-part : goal.invariant-loop-part
invariant-loop-part l = (l.edits.items ≡ l.fn.edits.items ++ map (λ p. Put (kind.Part p)) (take l.part-index l.parts)) × (vec_len l.edits ≡ vec_len l.fn.edits + l.part-index) × (vec_capacity l.fn.edits ≤ vec_capacity l.edits)
