use Rattle.std.proofs.Common.{◌∙◌, ℕ, Option, map, subst, sym}
use Rattle.rm_apply.specs.Restore.{Restores}
use Rattle.rm_blocks.specs.File.{File}
use Rattle.rm_machine.specs.{Recovery.{in_place}, Sound.{IsSound}, State.{current_of}}
use Rattle.rm_catalog_typed.specs.TypedCatalog.{records_of}
use Rattle.rm_step_recover.proofs.{Dates.{restored-dated}, Files.{restored-places}, Handing.{restore-hands, restored-lines}}
use Rattle.rm_step_recover.proofs.Sound.{restore-sound}
use Rattle.rm_step_recover.proofs.restoring.restore.Goals as goal

pub put_in_place-requires : goal.put_in_place-requires
put_in_place-requires g c =
    let s = c.args.state.now in
    restored-places (g.D.Store.held c.args.store.now) s c.requires.sound (current_of s) c.in-Some.at c.named.result c.in_ok-back.back c.in_ok-back.origins c.in_ok-back.ensures.restores

pub returns-clause-hands : goal.returns-clause-hands
returns-clause-hands g c =
    let held = g.D.Store.held c.args.store.now in
    let s = c.args.state.now in
    let at = c.in-Some.at in
    let back = c.in_ok-back.back in
    let origins = c.in_ok-back.origins in
    let restores = subst (λ (only : Option ℕ). Restores held (records_of s.catalog) (in_place s) (current_of s) at only back origins) c.named.ensures c.in_ok-back.ensures.restores in
    let lines = restored-lines back.skipped (map (λ (x : File). x.file) back.files) c.as_slice.result.now origins c.in_ok-lines.lines c.of_lines.result.lines c.as_slice.ensures c.in_ok-lines.ensures c.of_lines.ensures.lines in
    restore-hands held s c.args.until.now at (sym c.recover_target.ensures.value ∙ c.in-Some.is) c.args.file back origins _ _ restores lines c.of_lines.ensures.objects c.of_lines.ensures.removes c.put_in_place.ensures

pub returns-clause-dates : goal.returns-clause-dates
returns-clause-dates g c = restored-dated c.of_lines.result.lines c.in_ok-back.back.skipped _ c.as_slice.result.now (c.of_lines.ensures.lines ∙ c.in_ok-lines.ensures)

pub returns-clause-sound : goal.returns-clause-sound
returns-clause-sound g c =
    let back = c.in_ok-back in
    subst IsSound (sym c.put_in_place.ensures)
    (restore-sound (g.D.Store.held c.args.store.now) c.args.state.now c.requires.sound c.args.until.now c.in-Some.at back.back c.args.file back.origins c.requires.accepted c.named.result back.ensures.restores)
