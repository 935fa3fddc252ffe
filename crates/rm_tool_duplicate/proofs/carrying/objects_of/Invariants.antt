use Rattle.std.proofs.Common.{◌≡◌, map, take}
use Rattle.rm_tool_duplicate.specs.Duplicated.{object_of}
use Rattle.rm_tool_duplicate.proofs.carrying.objects_of.Given as goal

abbrev pub invariant-loop-piece : goal.invariant-loop-piece
invariant-loop-piece l = l.objects ≡ map object_of (take l.piece-index l.pieces)
