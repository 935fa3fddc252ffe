use Rattle.std.proofs.Common.{sym}
use Rattle.rm_step_upkeep.proofs.Fits.{log-fits}
use Rattle.rm_step_upkeep.proofs.amending.amend_log.Goals as goal

pub put_log-requires : goal.put_log-requires
put_log-requires c = record { fits = log-fits c.args.state.now.catalog c.requires.sound.catalog c.args.by c.args.id c.in-Some.log.now c.log_by-log.result (sym c.in-Some.ensures) c.log_by-log.ensures }
