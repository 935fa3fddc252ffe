use Rattle.rm_piece.specs.Rows.{from_on}
use Rattle.rm_standby_laws.proofs.Lasting.{stays-since, stays-whole, stops-held}
use Rattle.rm_standby_laws.proofs.laws.a_stop_leaves_what_a_set_holds.Goals as goal

pub returns-clause-states : goal.returns-clause-states
returns-clause-states c m s moment r a = stops-held (λ rows. rows) a stays-whole m s moment r

pub returns-clause-since : goal.returns-clause-since
returns-clause-since c from m s moment r a = stops-held (from_on from) a (stays-since from) m s moment r
