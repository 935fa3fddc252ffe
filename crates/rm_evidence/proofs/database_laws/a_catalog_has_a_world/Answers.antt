use Rattle.rm_evidence.proofs.DatabaseWorlds.{is-sound}
use Rattle.rm_evidence.proofs.database_laws.a_catalog_has_a_world.Goals as goal

pub returns : goal.returns
returns c rs catalog database = is-sound rs catalog database
