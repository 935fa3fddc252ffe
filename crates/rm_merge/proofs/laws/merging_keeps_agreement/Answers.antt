use Rattle.rm_merge.proofs.Merged.{merged_agrees}
use Rattle.rm_merge.proofs.laws.merging_keeps_agreement.Goals as goal

pub returns : goal.returns
returns c = merged_agrees
