use Rattle.rm_standby_laws.proofs.Lasting.{stays-since, stays-whole}
use Rattle.rm_standby_laws.proofs.laws.what_a_set_holds_stays.Goals as goal

pub returns-clause-states : goal.returns-clause-states
returns-clause-states c = stays-whole

pub returns-clause-since : goal.returns-clause-since
returns-clause-since c = stays-since
