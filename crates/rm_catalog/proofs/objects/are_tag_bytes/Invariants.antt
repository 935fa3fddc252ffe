use Rattle.std.{specs.List.{list_all}, proofs.Common.{◌≡◌, take, true}}
use Rattle.rm_catalog.specs.Objects.{is_tag_byte}
use Rattle.rm_catalog.proofs.objects.are_tag_bytes.Given as goal

abbrev pub invariant-loop-c : goal.invariant-loop-c
invariant-loop-c l = list_all is_tag_byte (take l.c-index l.bytes) ≡ true
