use Rattle.std.proofs.Common.{◌≡◌, ◌+◌, ℕ, List, [], ◌∷◌, ◌++◌, rules, subst, sym}
use Rattle.rm_catalog.specs.declared.record.PieceEntry.{PieceEntry}
use Rattle.rm_catalog_typed.specs.{Facts.{IsTypedCatalog}, Fitting.{FitsNewPiece}, TypedCatalog.{TypedCatalog}}
use Rattle.rm_catalog_typed.proofs.{Changed.{follows_new_piece}, Fitted.{new_piece_fits}}
use Rattle.rm_catalog_typed.proofs.catalog.TypedCatalog.add_piece.Goals as goal

pub invariant_of-self-2 : goal.invariant_of-self-2
invariant_of-self-2 c =
    let made : ℕ → List PieceEntry → TypedCatalog = λ n ps. record { ledger = record { base = record c.self.inside.base { next_id = n }; tree = c.self.inside.tree; files = c.self.inside.files.items; logs = c.self.inside.logs.items; pieces = ps; sets = c.self.inside.sets.items; marks = c.self.inside.marks.items; switches = c.self.inside.switches.items }; saved = c.self.inside.saved } in
    let old = made c.self.inside.base.next_id c.self.inside.pieces.items in
    let fits : FitsNewPiece old c.args.piece = subst (λ (r : TypedCatalog). FitsNewPiece r c.args.piece) (sym c.self.view_is) c.requires.fits in
    let pieces : c.push.new.self.items ≡ c.self.inside.pieces.items ++ c.args.piece ∷ [] = search rules in
    subst (λ (ps : List PieceEntry). IsTypedCatalog (made (c.args.piece.id + 1) ps)) (sym pieces)
    (subst (λ n. IsTypedCatalog (made (n + 1) (c.self.inside.pieces.items ++ c.args.piece ∷ []))) (sym fits.id) (new_piece_fits old c.args.piece c.self.invariant fits))

pub returns-clause-edits : goal.returns-clause-edits
returns-clause-edits c =
    let fits = subst (λ (r : TypedCatalog). FitsNewPiece r c.args.piece) (sym c.self.view_is) c.requires.fits in
    let pieces : c.push.new.self.items ≡ c.self.inside.pieces.items ++ c.args.piece ∷ [] = search rules in
    follows_new_piece _ _ _ _ (subst IsTypedCatalog c.self.view_is c.self.invariant) c.args.piece c.requires.fits
    (rw (c.push_both.ensures, c.in_ok-reserve.ensures.items, c.in_ok-copy.ensures, ← c.self.view_is, fits.id)) (rw (pieces, ← c.self.view_is, fits.id))
