use Rattle.std.proofs.Common.{rules, ◌<◌}
use Rattle.rm_step_upkeep.proofs.Known.{accepted-id}
use Rattle.rm_step_upkeep.proofs.refusing.known.Goals as goal

pub overflow_cast-result : goal.overflow_cast-result
overflow_cast-result c =
    let below : c.args.id < 4294967296 = (accepted-id c.args.state.now c.args.id c.requires.sound.catalog c.requires.accepted).1 in
    search rules

pub returns-clause-some : goal.returns-clause-some
returns-clause-some c = (accepted-id c.args.state.now c.args.id c.requires.sound.catalog c.requires.accepted).0
