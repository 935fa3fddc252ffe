use Rattle.std.proofs.Common.{◌∙◌, ◌++◌, ap, map, sym, subst, All}
use Rattle.rm_channel.specs.Jobs.{lists}
use Rattle.rm_machine.specs.{Asked.{writers_in}, BackupOutcome.{write_lines}, BlockRecover.{repair_begun}, Events.{opening}}
use Rattle.rm_machine.{specs.{Recovery.{skipped_lines}, State.{now_of}}, proofs.RepairAccepted.{can-repair}}
use Rattle.rm_repair.specs.Mended.{HasBlock, IsOlder}
use Rattle.rm_step_repair.specs.{Gone.{HasRepaired}, Told.{IsTargetNow, mended_line}}
use Rattle.rm_step_repair.proofs.Handing.{few-told, left-sound, repair-hands, run-older, run-there}
use Rattle.rm_step_repair.proofs.Mends.{all-dated, in-place-targets, mended-stand}
use Rattle.rm_step_repair.proofs.statement.block_recover.Goals as goal

pub tell_blocks-requires-clause-there : goal.tell_blocks-requires-clause-there
tell_blocks-requires-clause-there g c κs within =
    let s = c.args.state.now in
    let can = can-repair s c.args.form.now c.requires.sound c.requires.accepted in
    subst (All (IsTargetNow s)) (sym (c.as_slice.ensures.value ∙ c.in_ok-blocks.ensures)) (in-place-targets s c.requires.sound can.opened _ (mended-stand s c.requires.sound can.opened c.args.form.now))

pub run-requires-clause-there : goal.run-requires-clause-there
run-requires-clause-there g c κs within =
    subst (All (HasBlock (opening c.args.state.now).files)) (sym c.as_slice-jobs.ensures.value)
    (run-there (g.D.Store.held c.args.store.now) c.args.state.now c.args.form.now c.requires.sound c.requires.accepted c.as_slice.result.now (c.as_slice.ensures.value ∙ c.in_ok-blocks.ensures) c.in_ok-told.field-0 c.in-Ok.told c.in-Ok.is c.in_ok-told.ensures.told)

pub run-requires-clause-older : goal.run-requires-clause-older
run-requires-clause-older g c κs within =
    subst (All (IsOlder (now_of c.args.state.now))) (sym c.as_slice-jobs.ensures.value)
    (run-older (g.D.Store.held c.args.store.now) c.args.state.now c.args.form.now c.requires.sound c.requires.accepted c.as_slice.result.now (c.as_slice.ensures.value ∙ c.in_ok-blocks.ensures) c.in_ok-told.field-0 c.in-Ok.told c.in-Ok.is c.in_ok-told.ensures.told)

pub tell_writes-requires : goal.tell_writes-requires
tell_writes-requires g c =
    let ran = coe 0 1 (i. HasRepaired (repair_begun c.args.state.now c.args.form.now) (c.as_slice-jobs.ensures.value i) (writers_in c.args.state.now c.args.form.now.during) c.run.new.state (lists c.in_ok-scns.scns.items)) c.in_ok-scns.ensures.ran in
    record {
      few = few-told (g.D.Store.held c.args.store.now) c.args.state.now c.args.form.now c.requires.sound c.requires.accepted c.as_slice.result.now (c.as_slice.ensures.value ∙ c.in_ok-blocks.ensures) c.in_ok-told.field-0 c.in-Ok.told c.in-Ok.is c.in_ok-told.ensures.told
          c.requires.statement c.run.new.state (lists c.in_ok-scns.scns.items) ran c.as_slice-3.result.now (ap lists c.as_slice-3.ensures.value);
    }

pub returns-clause-hands : goal.returns-clause-hands
returns-clause-hands g c =
    let t = c.in-Ok.told in
    let ran = coe 0 1 (i. HasRepaired (repair_begun c.args.state.now c.args.form.now) (c.as_slice-jobs.ensures.value i) (writers_in c.args.state.now c.args.form.now.during) c.run.new.state (lists c.in_ok-scns.scns.items)) c.in_ok-scns.ensures.ran in
    let said =
    c.of_lines.ensures.lines ∙ c.in_ok-tell_writes.ensures
    ∙ (λ i. (c.in_ok-push_mends.ensures ∙ (λ j. (c.in_ok-lines.ensures.lines ∙ ap skipped_lines c.as_slice-2.ensures) j ++ map mended_line (c.as_slice-jobs.ensures.value j))) i ++ write_lines 1 (lists (c.as_slice-3.ensures.value i))) in
    repair-hands (g.D.Store.held c.args.store.now) c.args.state.now c.args.form.now c.requires.sound c.requires.accepted c.as_slice.result.now (c.as_slice.ensures.value ∙ c.in_ok-blocks.ensures) c.in_ok-told.field-0 t c.in-Ok.is c.in_ok-told.ensures.told
    c.requires.statement c.run.new.state (lists c.in_ok-scns.scns.items) ran c.of_lines.result c.take_off.new.state c.take_off.ensures said c.of_lines.ensures.objects c.of_lines.ensures.removes

pub returns-clause-sound : goal.returns-clause-sound
returns-clause-sound g c =
    let ran = coe 0 1 (i. HasRepaired (repair_begun c.args.state.now c.args.form.now) (c.as_slice-jobs.ensures.value i) (writers_in c.args.state.now c.args.form.now.during) c.run.new.state (lists c.in_ok-scns.scns.items)) c.in_ok-scns.ensures.ran in
    left-sound (g.D.Store.held c.args.store.now) c.args.state.now c.args.form.now c.requires.sound c.requires.accepted c.as_slice.result.now (c.as_slice.ensures.value ∙ c.in_ok-blocks.ensures) c.in_ok-told.field-0 c.in-Ok.told c.in-Ok.is c.in_ok-told.ensures.told
    c.requires.statement c.run.new.state (lists c.in_ok-scns.scns.items) ran c.take_off.new.state c.take_off.ensures

pub returns-clause-dates : goal.returns-clause-dates
returns-clause-dates g c =
    all-dated c.in_ok-lines.lines c.as_slice-jobs.result.now (lists c.as_slice-3.result.now) c.of_lines.result.lines c.in_ok-lines.ensures.dates
    (c.of_lines.ensures.lines ∙ c.in_ok-tell_writes.ensures ∙ ap (λ ls. ls ++ write_lines 1 (lists c.as_slice-3.result.now)) c.in_ok-push_mends.ensures)
