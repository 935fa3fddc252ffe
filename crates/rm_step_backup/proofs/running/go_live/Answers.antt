use Rattle.std.proofs.Common.{◌+◌, arith, length}
use Rattle.rm_live.{specs.Parts.{parts_of}, proofs.Fresh.{fresh-numbers, fresh-only, later-numbers}}
use Rattle.rm_step_backup.proofs.running.go_live.Goals as goal

pub copy_during-pass-requires-clause-only : goal.copy_during-pass-requires-clause-only
copy_during-pass-requires-clause-only g c κs within =
    fresh-only c.in_ok-live.live (parts_of c.args.database) (c.args.channels + length c.args.writers.now) c.in_ok-live.pass c.in_ok-live.ensures

pub copy_during-pass-requires-clause-numbers : goal.copy_during-pass-requires-clause-numbers
copy_during-pass-requires-clause-numbers g c κs within =
    let same = fresh-numbers c.in_ok-live.live (parts_of c.args.database) (c.args.channels + length c.args.writers.now) c.in_ok-live.pass c.in_ok-live.ensures in
    omega (arith, same)

pub close-database-requires-clause-only : goal.close-database-requires-clause-only
close-database-requires-clause-only g c =
    later-numbers c.in_ok-live.live (parts_of c.args.database) (c.args.channels + length c.args.writers.now) c.in_ok-live.pass c.copy_during-pass.result.0 c.in_ok-live.ensures c.copy_during-pass.ensures.stays
