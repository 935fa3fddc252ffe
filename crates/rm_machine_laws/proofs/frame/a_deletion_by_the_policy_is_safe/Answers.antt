use Rattle.rm_machine_laws.proofs.Safely.{deletes-safely}
use Rattle.rm_machine_laws.proofs.frame.a_deletion_by_the_policy_is_safe.Goals as goal

pub returns : goal.returns
returns c = deletes-safely
