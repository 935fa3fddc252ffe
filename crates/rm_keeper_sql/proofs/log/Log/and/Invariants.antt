use Rattle.std.specs.Prelude.{◌++◌}
use Rattle.rm_keeper_sql.specs.Shelves.{numbered}
use Rattle.rm_keeper_sql.proofs.log.Log.and.Given as goal

abbrev pub ghost-of : goal.ghost-of
ghost-of a = a.shown.now.0.now.edits ++ numbered a.shown.now.1 a.shown.now.2.now
