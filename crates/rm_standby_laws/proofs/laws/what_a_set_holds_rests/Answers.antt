use Rattle.rm_standby_laws.proofs.Lasting.{ended-held, left-held, wakes-held}
use Rattle.rm_standby_laws.proofs.laws.what_a_set_holds_rests.Goals as goal

pub returns-clause-ends : goal.returns-clause-ends
returns-clause-ends c m r applied pick a = ended-held pick a m r applied

pub returns-clause-left : goal.returns-clause-left
returns-clause-left c m r given pick a = left-held pick a given m r

pub returns-clause-wakes : goal.returns-clause-wakes
returns-clause-wakes c m r pick a = wakes-held pick a m r
