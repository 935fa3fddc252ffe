use Rattle.rm_merge.proofs.Reaching.{merged_high, merged_within}
use Rattle.rm_merge.proofs.laws.a_merged_copy_reaches_as_high_as_its_parts.Goals as goal

pub returns-clause-high : goal.returns-clause-high
returns-clause-high c = merged_high

pub returns-clause-within : goal.returns-clause-within
returns-clause-within c = merged_within
