use Rattle.std.proofs.Common.{◌≡◌, map, take}
use Rattle.rm_piece.specs.Filling.{risen}
use Rattle.rm_piece.proofs.rising.risen_rows.Given as goal

abbrev pub invariant-loop-row : goal.invariant-loop-row
invariant-loop-row l = l.made.items ≡ map (risen l.creation) (take l.row-index l.rows)
