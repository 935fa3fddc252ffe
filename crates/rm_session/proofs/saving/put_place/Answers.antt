use Rattle.std.proofs.Common.{sym, subst}
use Rattle.rm_machine.{specs.Sound.{IsSound}, proofs.Undamaged.{sound-undamaged}}
use Rattle.rm_session.proofs.saving.put_place.Goals as goal

pub put_all-requires-clause-sound : goal.put_all-requires-clause-sound
put_all-requires-clause-sound c = subst IsSound (sym c.lose_damaged.ensures) (sound-undamaged c.args.state.now c.requires.sound)
