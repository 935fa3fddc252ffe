use Rattle.std.proofs.Common.{◌≡◌, ◌≤◌, ◌+◌, length, take, vec_len, vec_capacity}
use Rattle.rm_live.specs.Passes.{IsLater}
use Rattle.rm_channel.specs.{Jobs.{AreRows, found_of, lists}, Made.{Did}, Sections.{sections}}
use Rattle.rm_channel.proofs.working.read_sections.Given as goal

abbrev pub invariant-loop-job : goal.invariant-loop-job
invariant-loop-job g l =
    IsLater l.fn.pass l.pass × (vec_len l.all ≡ l.job-index) × (length l.jobs ≤ vec_capacity l.all)
    × AreRows (lists l.all.items) (sections l.channels l.section (l.section + 1) (take l.job-index l.jobs))
    × Did l.fn.pass l.pass.seen (found_of (sections l.channels l.section (l.section + 1) (take l.job-index l.jobs)) (lists l.all.items))
