use Rattle.std.proofs.Common.{◌≡◌, ◌≤◌, length, map, take, vec_len, vec_capacity}
use Rattle.rm_channel.specs.Jobs.{blocks_in}
use Rattle.rm_channel.proofs.copying.reads_of.Given as goal

abbrev pub invariant-loop-job : goal.invariant-loop-job
invariant-loop-job l =
    (vec_len l.reads ≡ l.job-index) × (length l.jobs ≤ vec_capacity l.reads) × (l.reads.items ≡ map (λ j. blocks_in j.wanted) (take l.job-index l.jobs))
