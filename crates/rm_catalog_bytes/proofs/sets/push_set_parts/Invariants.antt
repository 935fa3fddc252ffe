use Rattle.std.{specs.List.{flat_map}, proofs.Common.{◌≡◌, ◌++◌, All, take}}
use Rattle.rm_catalog_bytes.specs.{Fits.{SetPartFits}, Spelling.{set_part_bytes}}
use Rattle.rm_catalog_bytes.proofs.sets.push_set_parts.Given as goal

abbrev pub invariant-loop-part : goal.invariant-loop-part
invariant-loop-part l = record {
  bytes : l.out.items ≡ l.fn.out.items ++ flat_map set_part_bytes (take l.part-index l.parts);
  fits : All SetPartFits (take l.part-index l.parts);
}
