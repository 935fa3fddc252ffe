use Rattle.rm_retain.proofs.Safe.{safe_told, safe_recoverable}
use Rattle.rm_retain.proofs.laws.safe_retention.Goals as goal

pub returns-clause-told : goal.returns-clause-told
returns-clause-told c h r old new days i s f b v x policy is left target block told =
    safe_told h r old new days i s policy is left target f b v x block told

pub returns-clause-recoverable : goal.returns-clause-recoverable
returns-clause-recoverable c h r old new days i s policy is left target recoverable =
    safe_recoverable h r old new days i s policy is left target recoverable
