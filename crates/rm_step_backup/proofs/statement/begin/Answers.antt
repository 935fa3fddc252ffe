use Rattle.std.proofs.Common.{◌∙◌, ap}
use Rattle.rm_machine.{specs.declared.state.State.{State}, proofs.BackupMarks.{marked-same}}
use Rattle.rm_step_backup.{specs.Copying.{StartBelow}, proofs.Copying.{below-now}}
use Rattle.rm_step_backup.proofs.statement.begin.Goals as goal

pub switch_all-requires : goal.switch_all-requires
switch_all-requires c =
    let s = c.args.state.now in
    let same = marked-same (λ (q : State). q.instance.tracker) s c.args.form.now (λ i. s.instance.tracker) in
    let after = c.in_ok-add_marks_for.ensures.after in
    let bitmaps = ap (λ (q : State). q.instance.tracker) after ∙ same in
    coe 1 0 (i. StartBelow (c.now-checkpoint.ensures i) (bitmaps i)) (below-now s c.requires.sound)
