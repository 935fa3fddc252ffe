use Rattle.std.proofs.Common.{◌≡◌, ◌++◌, map, take}
use Rattle.rm_catalog.specs.declared.record.Record.TheVariants as kind
use Rattle.rm_catalog_typed.proofs.telling.tell_parts.Given as goal

abbrev pub invariant-loop-part : goal.invariant-loop-part
invariant-loop-part l = l.records.items ≡ l.fn.records.items ++ map kind.Part (take l.part-index l.parts)
