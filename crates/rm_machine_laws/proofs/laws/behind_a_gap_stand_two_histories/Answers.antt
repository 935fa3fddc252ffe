use Rattle.rm_machine_laws.proofs.{Agreeing.{evidence-agrees}, Gaps.{gap-unknown}}
use Rattle.rm_machine_laws.proofs.laws.behind_a_gap_stand_two_histories.Goals as goal

pub returns-clause-unknown : goal.returns-clause-unknown
returns-clause-unknown c = gap-unknown

pub returns-clause-agrees : goal.returns-clause-agrees
returns-clause-agrees c = evidence-agrees
