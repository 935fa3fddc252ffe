use Rattle.rm_tool.proofs.Telling.{untouched-parts-tell}
use Rattle.rm_tool.proofs.laws.digests_tell_of_an_untouched_site.Goals as goal

pub returns : goal.returns
returns c = untouched-parts-tell
