use Rattle.std.proofs.Common.{◌∙◌, ◌++◌, ◌∷◌, [], ap, length, subst, sym}
use Rattle.rm_catalog.specs.declared.record.BaseEntry.{BaseEntry}
use Rattle.rm_machine.specs.{Recovery.{skipped_lines}, Sound.{IsSound}, State.{current_of}}
use Rattle.rm_report.specs.declared.line.Line.TheVariants.{Recovered}
use Rattle.rm_step_recover.proofs.{Dates.{recovered-dated}, Files.{told-places}, Handing.{recover-hands, told-at}, Sound.{recover-sound}}
use Rattle.rm_step_recover.proofs.recovery.recover.Goals as goal

pub put_in_place-requires : goal.put_in_place-requires
put_in_place-requires g c =
    let held = g.D.Store.held c.args.store.now in
    let s = c.args.state.now in
    let at = c.in-Some.at in
    let back = c.in-Ok.back in
    let current = ap (λ (b : BaseEntry). b.current) c.base-current.ensures.value in
    told-places held s c.requires.sound (current_of s) at back (told-at held s c.base-current.result.current (current_of s) at c.in_ok-back.field-0 back current c.in-Ok.is c.in_ok-back.ensures.tells)

pub returns-clause-hands : goal.returns-clause-hands
returns-clause-hands g c =
    let held = g.D.Store.held c.args.store.now in
    let s = c.args.state.now in
    let at = c.in-Some.at in
    let back = c.in-Ok.back in
    let current = ap (λ (b : BaseEntry). b.current) c.base-current.ensures.value in
    let tells = told-at held s c.base-current.result.current (current_of s) at c.in_ok-back.field-0 back current c.in-Ok.is c.in_ok-back.ensures.tells in
    let lines = c.of_lines.ensures.lines ∙ c.in_ok-lines.ensures ∙ ap (λ n. skipped_lines back.skipped ++ Recovered at n (length back.files) ∷ []) current in
    recover-hands held s c.args.until.now at (sym c.recover_target.ensures.value ∙ c.in-Some.is) back _ _ tells lines c.of_lines.ensures.objects c.of_lines.ensures.removes c.put_in_place.ensures

pub returns-clause-dates : goal.returns-clause-dates
returns-clause-dates g c = recovered-dated c.of_lines.result.lines c.in-Ok.back.skipped c.in-Some.at _ _ (c.of_lines.ensures.lines ∙ c.in_ok-lines.ensures)

pub returns-clause-sound : goal.returns-clause-sound
returns-clause-sound g c =
    let held = g.D.Store.held c.args.store.now in
    let s = c.args.state.now in
    let at = c.in-Some.at in
    let back = c.in-Ok.back in
    let current = ap (λ (b : BaseEntry). b.current) c.base-current.ensures.value in
    let tells = told-at held s c.base-current.result.current (current_of s) at c.in_ok-back.field-0 back current c.in-Ok.is c.in_ok-back.ensures.tells in
    subst IsSound (sym c.put_in_place.ensures) (recover-sound held s c.requires.sound c.args.until.now at back (sym c.recover_target.ensures.value ∙ c.in-Some.is) c.requires.accepted tells)
