use Rattle.std.proofs.Common.{subst}
use Rattle.rm_catalog_typed.{specs.Facts.{IsTypedCatalog}, proofs.{Changed.{follows_piece}, Fitted.{piece_fits}}}
use Rattle.rm_catalog_typed.proofs.catalog.TypedCatalog.put_piece.Goals as goal

pub invariant_of-self-2 : goal.invariant_of-self-2
invariant_of-self-2 c = rw c.in_ok-put.ensures.put (piece_fits _ c.args.piece c.self.invariant (rw c.self.view_is c.requires.fits))

pub returns-clause-edits : goal.returns-clause-edits
returns-clause-edits c =
    follows_piece _ _ _ _ (subst IsTypedCatalog c.self.view_is c.self.invariant) c.args.piece c.requires.fits
    (rw (c.push.ensures.items, c.in_ok-reserve.ensures.items, c.in_ok-copy.ensures)) (rw (c.in_ok-put.ensures.put, ← c.self.view_is))
