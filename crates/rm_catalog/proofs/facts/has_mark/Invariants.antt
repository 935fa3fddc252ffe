use Rattle.std.{specs.List.{list_any}, proofs.Common.{◌≡◌, take, false}}
use Rattle.rm_catalog.specs.Facts.{is_mark_of}
use Rattle.rm_catalog.proofs.facts.has_mark.Given as goal

abbrev pub invariant-loop-r : goal.invariant-loop-r
invariant-loop-r l = list_any (is_mark_of l.inc) (take l.r-index l.records) ≡ false
