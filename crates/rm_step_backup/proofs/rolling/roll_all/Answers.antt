use Rattle.std.proofs.Common.{◌∙◌, ap, map}
use Rattle.rm_machine.specs.declared.job.Job.{Job}
use Rattle.rm_step_backup.proofs.Increments.{base-fits, can-stand, files-are, hands, roomy, set-valid}
use Rattle.rm_step_backup.proofs.rolling.roll_all.Goals as goal

pub make-requires-clause-can : goal.make-requires-clause-can
make-requires-clause-can c =
    can-stand c.args.state.now c.args.scn c.requires.sound c.requires.accepted c.args.form.now c.requires.all c.as_slice-files.result.now (c.as_slice-files.ensures.value ∙ c.in_ok-taken.ensures)

pub make-requires-clause-valid : goal.make-requires-clause-valid
make-requires-clause-valid c =
    set-valid c.args.state.now c.args.scn c.requires.sound c.requires.accepted c.args.form.now c.requires.all c.as_slice-files.result.now (c.as_slice-files.ensures.value ∙ c.in_ok-taken.ensures)

pub begin-requires-clause-room : goal.begin-requires-clause-room
begin-requires-clause-room c =
    roomy c.args.state.now c.args.scn c.requires.sound c.requires.accepted c.args.form.now c.requires.all c.as_slice-files.result.now (c.as_slice-files.ensures.value ∙ c.in_ok-taken.ensures)

pub begin-requires-clause-jobs : goal.begin-requires-clause-jobs
begin-requires-clause-jobs c =
    ap (map (λ (j : Job). j.file)) (c.as_slice-jobs.ensures.value ∙ c.in_ok-made.ensures) ∙ files-are c.args.scn c.as_slice-files.result.now ∙ c.as_slice-files.ensures.value ∙ c.in_ok-taken.ensures

pub draw_id-requires : goal.draw_id-requires
draw_id-requires c =
    base-fits c.args.state.now c.args.scn c.requires.sound c.requires.accepted c.args.form.now c.requires.all c.as_slice-files.result.now (c.as_slice-files.ensures.value ∙ c.in_ok-taken.ensures)
    c.begin.new.state c.in_ok-begin.ensures.after

pub returns-clause-hands : goal.returns-clause-hands
returns-clause-hands c held =
    let out = c.in_ok-handed.ensures in
    hands c.args.state.now c.args.scn c.requires.sound c.requires.accepted c.args.form.now c.requires.all c.as_slice-files.result.now (c.as_slice-files.ensures.value ∙ c.in_ok-taken.ensures)
    c.begin.new.state c.in_ok-begin.ensures.after held c.in_ok-handed.handed c.draw_id.new.state out.lines out.objects out.removes c.in_ok-draw_id.ensures.after
