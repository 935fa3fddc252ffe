use Rattle.rm_machine_laws.proofs.Cataloguing.{asks-no-more}
use Rattle.rm_machine_laws.proofs.laws.only_a_catalogue_asks_more.Goals as goal

pub returns : goal.returns
returns c = asks-no-more
