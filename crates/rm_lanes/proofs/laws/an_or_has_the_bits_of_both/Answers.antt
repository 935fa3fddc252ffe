use Rattle.rm_lanes.proofs.SetBits.{or-set}
use Rattle.rm_lanes.proofs.laws.an_or_has_the_bits_of_both.Goals as goal

pub returns : goal.returns
returns c = or-set
