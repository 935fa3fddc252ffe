use Rattle.std.proofs.Common.{arith}
use Rattle.rm_machine.proofs.TakenFiles.{taken-blocks, taken-few}
use Rattle.rm_step_backup.proofs.rolling.set_bytes.Goals as goal

pub sets_bytes-requires : goal.sets_bytes-requires
sets_bytes-requires c =
    let s = c.args.state.now in
    let b = c.args.form.now in
    record { few = (omega arith, omega (arith, taken-few s b c.requires.sound, c.taken_count.ensures), omega (arith, taken-blocks s b c.requires.sound, c.taken_blocks.ensures)) }
