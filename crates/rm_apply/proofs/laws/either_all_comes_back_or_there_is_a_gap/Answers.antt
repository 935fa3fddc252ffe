use Rattle.rm_apply.proofs.Deciding.{not-both}
use Rattle.rm_apply.proofs.laws.either_all_comes_back_or_there_is_a_gap.Goals as goal
use Rattle.rm_evidence.proofs.Unique.{evidence_one}

pub returns-clause-one : goal.returns-clause-one
returns-clause-one c = evidence_one

pub returns-clause-either : goal.returns-clause-either
returns-clause-either c = not-both
