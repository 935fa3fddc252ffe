use Rattle.rm_evidence.proofs.Worlds.{is_world}
use Rattle.rm_plan.proofs.laws.a_catalogs_database_is_a_world.Goals as goal

pub returns : goal.returns
returns c = is_world
