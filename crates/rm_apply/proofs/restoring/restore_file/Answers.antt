use Rattle.std.proofs.Common.{◌∷◌, ◌∙◌, [], ap, refl, sym, subst}
use Rattle.rm_blocks.specs.File.{File}
use Rattle.rm_evidence.specs.Database.{world_of}
use Rattle.rm_apply.specs.{Restore.{AreRestored, file_by, origin_by}, Taking.{base_at}, declared.origin.Origin.{Origin}}
use Rattle.rm_apply.proofs.Restorations.{created_below, created_with, one_restored, same_choice}
use Rattle.rm_apply.proofs.restoring.restore_file.Goals as goal

pub file_by-requires-clause-creation : goal.file_by-requires-clause-creation
file_by-requires-clause-creation c = created_below c.args.catalog.now c.args.target.number c.args.target.datafile c.records.ensures.catalog c.requires.target.0

pub file_by-requires-clause-blocks : goal.file_by-requires-clause-blocks
file_by-requires-clause-blocks c = created_with c.args.catalog.now c.args.target.number c.args.target.datafile c.records.ensures.catalog c.requires.database c.requires.target.0

pub file_by-requires-clause-order : goal.file_by-requires-clause-order
file_by-requires-clause-order c =
    let bases = c.args.bases.now in
    let o = base_at bases c.choose-place.result in
    c.requires.order o (same_choice c.tree.result.now (world_of c.args.catalog.now).tree bases bases c.args.i c.args.s c.args.target.number o c.tree.ensures refl c.choose-place.ensures)

pub returns-clause-restored : goal.returns-clause-restored
returns-clause-restored c = λ all stays.
    let w = world_of c.args.catalog.now in
    let bases = c.args.bases.now in
    let f = c.args.target.number in
    let d = c.args.target.datafile in
    let o = base_at bases c.choose-place.result in
    let chosen = same_choice c.tree.result.now w.tree bases bases c.args.i c.args.s f o c.tree.ensures refl c.choose-place.ensures in
    subst (λ (x : File). AreRestored w all c.args.i c.args.s (f ∷ []) (x ∷ []) (c.origin_by-origin.result ∷ [])) (sym c.in_ok-file.ensures.file)
    (subst (λ (x : Origin). AreRestored w all c.args.i c.args.s (f ∷ []) (file_by f d o ∷ []) (x ∷ [])) (sym (c.origin_by-origin.ensures ∙ ap origin_by c.base_at.ensures))
    (one_restored w all c.args.i c.args.s f d o c.requires.target.0 (stays o chosen)))
