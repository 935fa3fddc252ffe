use Rattle.rm_channel.proofs.Cuts.{sections-alike}
use Rattle.rm_channel.proofs.cutting.sections_are_alike.Goals as goal

pub returns : goal.returns
returns c = sections-alike
