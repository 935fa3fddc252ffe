use Rattle.std.proofs.Common.{rules, ◌<◌, sym}
use Rattle.rm_step_upkeep.proofs.Known.{large-unknown}
use Rattle.rm_step_upkeep.proofs.refusing.is_unknown.Goals as goal

pub returns-then-id-from : goal.returns-then-id-from
returns-then-id-from c =
    let large : 4294967295 < c.args.id = search rules in
    record { value = sym (large-unknown c.args.state.now.catalog c.requires.sound.catalog c.args.id large) }
