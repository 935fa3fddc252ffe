use Rattle.std.proofs.Common.{◌≤◌, IfSome, arith}
use Rattle.rm_machine.proofs.TakenFiles.{taken-blocks, taken-few}
use Rattle.rm_step_backup.proofs.Objects.{objects-few, pieces-bytes, sets-bytes}
use Rattle.rm_step_backup.proofs.datafiles.object_bytes.Goals as goal

pub sets_bytes-requires : goal.sets_bytes-requires
sets_bytes-requires c =
    let s = c.args.state.now in
    let b = c.args.form.now in
    let files = taken-few s b c.requires.sound in
    record {
      few = (
        omega (arith, objects-few s b, files, c.object_count.ensures),
        omega (arith, files, c.taken_count-files.ensures),
        omega (arith, taken-blocks s b c.requires.sound, c.taken_blocks-blocks.ensures),
      );
    }

pub overflow_mul-result : goal.overflow_mul-result
overflow_mul-result c = omega (arith, taken-few c.args.state.now c.args.form.now c.requires.sound, c.taken_count-files.ensures)

pub overflow_mul-result-in-None : goal.overflow_mul-result-in-None
overflow_mul-result-in-None c = omega (arith, taken-blocks c.args.state.now c.args.form.now c.requires.sound, c.taken_blocks-blocks.ensures)

pub overflow_add-result : goal.overflow_add-result
overflow_add-result c =
    omega (arith, taken-few c.args.state.now c.args.form.now c.requires.sound, taken-blocks c.args.state.now c.args.form.now c.requires.sound, c.taken_count-files.ensures, c.taken_blocks-blocks.ensures)

pub returns-in-Some : goal.returns-in-Some
returns-in-Some c =
    let some : 1 ≤ c.in-Some.field-0 = coe 0 1 (i. IfSome (c.in-Some.is i) (λ n. 1 ≤ n)) c.requires.some in
    omega (arith, sets-bytes c.args.state.now c.args.form.now c.in-Some.field-0 c.in-Some.is some, c.sets_bytes.ensures, c.object_count.ensures, c.taken_count-files.ensures, c.taken_blocks-blocks.ensures)

pub returns-in-None : goal.returns-in-None
returns-in-None c = omega (arith, pieces-bytes c.args.state.now c.args.form.now c.in-None.is, c.taken_count-files.ensures, c.taken_blocks-blocks.ensures)
