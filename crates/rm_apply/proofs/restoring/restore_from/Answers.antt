use Rattle.std.proofs.Common.{◌∙◌, ◌<◌, ℕ, AllPairs, List, map, refl, sym, subst}
use Rattle.rm_catalog.specs.Trees.{nodes}
use Rattle.rm_evidence.specs.Database.{world_of}
use Rattle.rm_base.proofs.Lists.{unmapped-pairs}
use Rattle.rm_piece.specs.declared.piece.Piece.{Piece}
use Rattle.rm_apply.{specs.{Restore.{AreRestored}, declared.targets.TargetFile.{TargetFile}}, proofs.Numbers.{number}}
use Rattle.rm_apply.proofs.Restorations.{chosen_in_order, same_choice}
use Rattle.rm_apply.proofs.restoring.restore_from.Goals as goal

pub restore_files-requires-clause-order : goal.restore_files-requires-clause-order
restore_files-requires-clause-order g c = λ f o chosen.
    let tree = nodes c.args.catalog.now in
    let e = c.in_ok-evidence.evidence in
    chosen_in_order tree e c.args.i c.args.s f o c.in_ok-evidence.ensures.fits
    (same_choice tree tree c.as_mut_slice-lent.result.now e.bases c.args.i c.args.s f o refl (c.as_mut_slice-lent.ensures.value ∙ c.into_vec-bases.ensures) chosen)

pub restore_files-requires-clause-apart : goal.restore_files-requires-clause-apart
restore_files-requires-clause-apart g c =
    subst (AllPairs (λ (a b : TargetFile). a.number < b.number)) (sym c.as_slice.ensures)
    (unmapped-pairs (λ (a b : ℕ). a < b) number c.in_ok-targets.targets c.in_ok-targets.ensures.numbers.ascends)

pub returns-clause-restored : goal.returns-clause-restored
returns-clause-restored g c =
    let w = world_of c.args.catalog.now in
    let e = c.in_ok-evidence.evidence in
    let ts = c.in_ok-targets.targets in
    let lent = c.as_mut_slice-lent in
    record {
      evidence = e;
      is = record { at_hand = c.in_ok-evidence.ensures.gathered; fits = c.in_ok-evidence.ensures.fits };
      numbers = map number ts;
      asked = c.in_ok-targets.ensures.numbers;
      restored =
          subst (λ (us : List TargetFile). AreRestored w e.bases c.args.i c.args.s (map number us) c.in_ok-files.files c.in_ok-files.origins) c.as_slice.ensures
          (subst (λ (xs : List (ℕ × Piece)). AreRestored w xs c.args.i c.args.s (map number c.as_slice.result.now) c.in_ok-files.files c.in_ok-files.origins) (lent.ensures.value ∙ c.into_vec-bases.ensures) c.in_ok-files.ensures);
      skipped = refl;
    }
