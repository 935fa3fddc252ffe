use Rattle.rm_keeper_sql.{specs.SqlKeeper.{number_of}, proofs.Telltale.{told_ascends}}
use Rattle.rm_keeper_sql.proofs.told.ToldKeeperKeeper.load.Goals as goal

pub returns-clause-ascends : goal.returns-clause-ascends
returns-clause-ascends g c = told_ascends (number_of c.args.self.now.keeper) c.args.self.now.log.edits c.load_of.result
