use Rattle.std.proofs.Common.{◌≡◌, ◌≤◌, ◌+◌, ◌++◌, List, length, vec_len, vec_capacity}
use Rattle.rm_live.specs.Passes.{IsLater}
use Rattle.rm_channel.specs.{Jobs.{wrote}, Made.{Did}, declared.jobs.WriteJob.{WriteJob}}
use Rattle.rm_channel.proofs.working.make_writes.Given as goal

abbrev pub invariant-runs : goal.invariant-runs
invariant-runs g l =
    IsLater l.fn.pass l.pass × (vec_len l.answers + length l.left ≡ length l.list) × (length l.list ≤ vec_capacity l.answers)
    × ((done : List WriteJob) × (done ++ l.left ≡ l.list) × Did l.fn.pass l.pass.seen (wrote l.thread done l.answers.items))

abbrev pub decreases-runs : goal.decreases-runs
decreases-runs g l = length l.left
