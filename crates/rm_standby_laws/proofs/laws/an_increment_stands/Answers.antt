use Rattle.rm_standby_laws.proofs.Standing.{ended-stands, left-stands, stays, stops-stands, wakes-stands}
use Rattle.rm_standby_laws.proofs.laws.an_increment_stands.Goals as goal

pub returns-clause-stays : goal.returns-clause-stays
returns-clause-stays c m n command moment reply id a sound at step other = stays id a m command moment sound at other n reply step

pub returns-clause-stops : goal.returns-clause-stops
returns-clause-stops c m r command moment id a sound at stopped other = stops-stands id a m command moment r sound at other stopped

pub returns-clause-ends : goal.returns-clause-ends
returns-clause-ends c m r applied id a = ended-stands id a m r applied

pub returns-clause-left : goal.returns-clause-left
returns-clause-left c m r given id a left other = left-stands id a given m r other left

pub returns-clause-wakes : goal.returns-clause-wakes
returns-clause-wakes c m r id a = wakes-stands id a m r
