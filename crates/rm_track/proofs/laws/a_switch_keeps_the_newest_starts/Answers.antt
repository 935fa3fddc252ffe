use Rattle.rm_track.proofs.Starts.{starts-switched}
use Rattle.rm_track.proofs.laws.a_switch_keeps_the_newest_starts.Goals as goal

pub returns : goal.returns
returns c = starts-switched
