use Rattle.rm_machine_laws.proofs.Gaps.{gap-or-told}
use Rattle.rm_machine_laws.proofs.laws.a_gap_and_a_recovery_exclude_each_other.Goals as goal

pub returns : goal.returns
returns c = gap-or-told
