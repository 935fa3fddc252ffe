use Rattle.std.proofs.Common.{◌≡◌}
use Rattle.rm_history.{specs.State.{concerns, latest}, proofs.States.{latest-on}}
use Rattle.rm_history.proofs.world.World.state.Given as goal

abbrev pub invariant-loop-change : goal.invariant-loop-change
invariant-loop-change l =
    latest-on (concerns l.self l.i l.s l.file l.block) l.change-iterator.iter.rest.now l.last ≡ latest (concerns l.self l.i l.s l.file l.block) l.history
