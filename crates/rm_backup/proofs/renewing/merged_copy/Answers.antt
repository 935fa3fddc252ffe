use Rattle.std.proofs.{Common.{◌∙◌, ℕ, List, Contains, ap, sym, subst}, lemmas.List.Elements.{All-contains}}
use Rattle.rm_catalog.specs.Trees.{nodes}
use Rattle.rm_evidence.specs.Known.{FitsPiece}
use Rattle.rm_piece.specs.{Valid.{IsPiece}, declared.piece.Piece.{Piece}}
use Rattle.rm_backup.{specs.Renewed.{copy_at}, proofs.AtHand.{copy_fits}}
use Rattle.rm_backup.proofs.renewing.merged_copy.Goals as goal

pub take_over-merged-requires-clause-copy : goal.take_over-merged-requires-clause-copy
take_over-merged-requires-clause-copy c =
    let is = sym (c.in-Some.ensures ∙ ap (λ (xs : List (ℕ × Piece)). copy_at xs c.args.id) c.as_slice.ensures) in
    subst IsPiece (sym c.in_ok-copy.ensures) (copy_fits (nodes c.args.catalog.now) c.args.evidence.now.bases c.args.id c.in-Some.copy.now c.requires.fits.bases is).valid

pub take_over-merged-requires-clause-level1 : goal.take_over-merged-requires-clause-level1
take_over-merged-requires-clause-level1 c =
    let first = c.in-Some-next_level1.first.now in
    let held = subst (λ (xs : List (ℕ × Piece)). Contains xs first) c.as_slice-level1s.ensures c.in-Some-next_level1.ensures.held in
    (All-contains (λ (x : ℕ × Piece). FitsPiece (nodes c.args.catalog.now) x.1) c.args.evidence.now.level1s first c.requires.fits.level1s held).valid
