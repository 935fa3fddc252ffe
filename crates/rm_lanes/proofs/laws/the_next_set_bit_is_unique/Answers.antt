use Rattle.rm_lanes.proofs.SetBits.{next-one}
use Rattle.rm_lanes.proofs.laws.the_next_set_bit_is_unique.Goals as goal

pub returns-clause-one : goal.returns-clause-one
returns-clause-one c = next-one

pub returns-clause-none : goal.returns-clause-none
returns-clause-none c = λ bytes from k none next. none k next.reached next.set
