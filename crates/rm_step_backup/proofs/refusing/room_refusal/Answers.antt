use Rattle.std.proofs.Common.{arith}
use Rattle.rm_machine.proofs.TakenFiles.{taken-few}
use Rattle.rm_step_backup.proofs.Objects.{objects-few}
use Rattle.rm_step_backup.proofs.refusing.room_refusal.Goals as goal

pub overflow_add-count : goal.overflow_add-count
overflow_add-count c =
    omega (arith, objects-few c.args.state.now c.args.form.now, taken-few c.args.state.now c.args.form.now c.requires.sound, c.object_count-count.ensures, c.marks_for.ensures.most)
