use Rattle.rm_machine.proofs.BackingUp.{per_set-some}
use Rattle.rm_step_backup.proofs.refusing.backup_refusal.Goals as goal

pub lost_refusal-requires-clause-some : goal.lost_refusal-requires-clause-some
lost_refusal-requires-clause-some c = per_set-some c.args.form.now c.requires.statement.0
