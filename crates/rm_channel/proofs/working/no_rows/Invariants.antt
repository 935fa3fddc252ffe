use Rattle.std.proofs.Common.{◌≡◌, ◌≤◌, ◌-◌, [], replicate, vec_len}
use Rattle.rm_channel.specs.Jobs.{lists}
use Rattle.rm_channel.proofs.working.no_rows.Given as goal

abbrev pub invariant-jobs : goal.invariant-jobs
invariant-jobs l = (vec_len l.rows ≤ l.jobs) × (lists l.rows.items ≡ replicate (vec_len l.rows) [])

abbrev pub decreases-jobs : goal.decreases-jobs
decreases-jobs l = l.jobs - vec_len l.rows
