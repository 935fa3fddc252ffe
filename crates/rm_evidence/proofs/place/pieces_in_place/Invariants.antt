use Rattle.std.{specs.Vec.Iter.{into_iter_items}, proofs.Common.{◌≡◌, ◌++◌, All, map}}
use Rattle.rm_piece.specs.Valid.{IsPiece}
use Rattle.rm_evidence.specs.Gathered.{placed, placed_piece}
use Rattle.rm_evidence.proofs.place.pieces_in_place.Given as goal

abbrev pub invariant-loop-file : goal.invariant-loop-file
invariant-loop-file l = record {
  made : l.pieces.items ++ placed (map (placed_piece l.dbid) (into_iter_items l.file-iterator)) ≡ placed (map (placed_piece l.dbid) (into_iter_items l.initial.file-iterator));
  valid : All (λ x. IsPiece (placed_piece l.dbid x)) (into_iter_items l.file-iterator);
}
