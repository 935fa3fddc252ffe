use Rattle.std.proofs.Common.{◌∷◌, ◌∙◌, [], ap, sym, subst}
use Rattle.rm_evidence.specs.Database.{world_of}
use Rattle.rm_apply.specs.{Restore.{AreRestored, file_by, origin_by}, Taking.{base_at}, declared.origin.Origin.{Origin}}
use Rattle.rm_apply.proofs.Restorations.{one_restored, same_choice}
use Rattle.rm_apply.proofs.previewing.origin.Goals as goal

pub returns : goal.returns
returns c =
    let w = world_of c.args.catalog.now in
    let bases = c.args.evidence.now.bases in
    let f = c.args.target.number in
    let d = c.args.target.datafile in
    let o = base_at c.as_slice-bases.result.now c.choose-place.result in
    let chosen = same_choice c.tree.result.now w.tree c.as_slice-bases.result.now bases c.args.i c.args.s f o c.tree.ensures c.as_slice-bases.ensures c.choose-place.ensures in (
      file_by f d o ∷ [],
      subst (λ (x : Origin). AreRestored w bases c.args.i c.args.s (f ∷ []) (file_by f d o ∷ []) (x ∷ [])) (sym (c.origin_by.ensures ∙ ap origin_by c.base_at.ensures)) (one_restored w bases c.args.i c.args.s f d o c.requires.target.0 chosen),
    )
