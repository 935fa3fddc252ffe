use Rattle.std.proofs.Common.{sym, subst}
use Rattle.rm_machine.{specs.Sound.{IsSound}, proofs.Undamaged.{sound-undamaged}}
use Rattle.rm_machine.proofs.mounts.become_mounted.Goals as goal

pub mount_open-requires : goal.mount_open-requires
mount_open-requires c = record { sound = subst IsSound (sym c.lose_damaged.ensures) (sound-undamaged c.args.state.now c.requires.sound) }
