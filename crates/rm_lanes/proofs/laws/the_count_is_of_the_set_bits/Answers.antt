use Rattle.rm_lanes.proofs.{BitCounts.{count-set}, SetBits.{from-set, to-set}}
use Rattle.rm_lanes.proofs.laws.the_count_is_of_the_set_bits.Goals as goal

pub returns-clause-test : goal.returns-clause-test
returns-clause-test c = λ bytes k. (to-set bytes k, from-set bytes k)

pub returns-clause-count : goal.returns-clause-count
returns-clause-count c = count-set
