use Rattle.rm_history.proofs.Past.{past-agrees}
use Rattle.rm_history.proofs.known.growth_past_the_evidence_keeps_agreement.Goals as goal

pub returns : goal.returns
returns _ w h e c agrees longer past = past-agrees w h e c agrees longer past
