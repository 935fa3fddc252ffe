use Rattle.rm_drill.proofs.Lengths.{script-short}
use Rattle.rm_drill.proofs.laws.a_script_is_short.Goals as goal

pub returns : goal.returns
returns c number = script-short number
