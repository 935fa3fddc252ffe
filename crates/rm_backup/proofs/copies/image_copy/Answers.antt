use Rattle.std.proofs.Common.{rules, ◌∷◌, [], Some, sym, subst}
use Rattle.rm_catalog.specs.declared.record.Record.{Record}
use Rattle.rm_backup.{specs.{Looking.{TellsFirst}, Records.{pieces}, Taken.{MayBeTaken}}, proofs.Choices.{tells_one}}
use Rattle.rm_backup.proofs.copies.image_copy.Goals as goal

pub returns-in-Piece : goal.returns-in-Piece
returns-in-Piece c =
    let P = MayBeTaken c.args.catalog.now c.args.file c.args.tag.now in
    let passes : P c.in-Piece.piece = search rules in
    subst (λ (r : Record). TellsFirst P (pieces (r ∷ [])) (Some (c.in-Piece.piece.id, c.in-Piece.piece.checkpoint))) (sym c.in-Piece.is) (tells_one P c.in-Piece.piece passes)
