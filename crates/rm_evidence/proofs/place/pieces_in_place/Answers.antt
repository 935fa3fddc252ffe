use Rattle.std.{specs.Vec.Iter.{into_iter_items}, proofs.Common.{◌≡◌, ◌∙◌, ◌∷◌, ◌++◌, [], ℕ, List, append_assoc, ap, map, sym}}
use Rattle.std.proofs.lemmas.List.Elements.{All-rest}
use Rattle.rm_blocks.specs.File.{File}
use Rattle.rm_piece.specs.{Valid.{IsPiece}, declared.piece.Piece.{Piece}}
use Rattle.rm_evidence.specs.Gathered.{placed, placed_piece}
use Rattle.rm_evidence.proofs.place.pieces_in_place.Goals as goal

pub loop-file-preserved : goal.loop-file-preserved
loop-file-preserved c =
    let at = c.loop-file in
    let x = c.in-Some.file in
    let rest = into_iter_items c.next.new.self in
    let f : File → Piece = placed_piece c.args.dbid in
    let steps : into_iter_items at.file-iterator ≡ x ∷ rest = c.in-Some.ensures.steps.0 in
    record {
      made =
          ap (λ (xs : List (ℕ × Piece)). xs ++ placed (map f rest)) (c.in_ok-push.ensures.items ∙ ap (λ (a : Piece). at.pieces.items ++ (0, a) ∷ []) c.piece_in_place.ensures)
          ∙ append_assoc at.pieces.items ((0, f x) ∷ []) (placed (map f rest))
          ∙ ap (λ (xs : List File). at.pieces.items ++ placed (map f xs)) (sym steps)
          ∙ at.invariant.made;
      valid = All-rest (λ (y : File). IsPiece (f y)) x rest (into_iter_items at.file-iterator) steps at.invariant.valid;
    }
