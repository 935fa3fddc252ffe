use Rattle.rm_step_backup.proofs.Increments.{rows-few}
use Rattle.rm_step_backup.proofs.rolling.line_of.Goals as goal

pub rows_listed-requires : goal.rows_listed-requires
rows_listed-requires c = record { few = rows-few c.args.set.now c.requires }
