use Rattle.std.{specs.List.{flat_map}, proofs.Common.{◌≡◌, ◌++◌, ◌+◌, ◌*◌, length, All}}
use Rattle.rm_catalog_bytes.specs.{Fits.{SetPartFits}, Spelling.{set_part_bytes}}
use Rattle.rm_catalog_bytes.proofs.sets.parts_of.Given as goal

abbrev pub invariant-loop : goal.invariant-loop
invariant-loop l = record {
  parts : l.bytes ≡ flat_map set_part_bytes l.parts.items ++ l.rest;
  count : length l.parts.items ≡ l.counter;
  left : length l.rest + 25 * l.counter ≡ 25 * l.count;
  fits : All SetPartFits l.parts.items;
}
