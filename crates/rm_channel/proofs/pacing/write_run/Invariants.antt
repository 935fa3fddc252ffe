use Rattle.std.proofs.Common.{◌≡◌, ◌+◌, take, vec_len, vec_capacity}
use Rattle.rm_live.specs.Passes.{IsLater}
use Rattle.rm_channel.specs.{Jobs.{wrote}, Made.{DidMore}}
use Rattle.rm_channel.proofs.pacing.write_run.Given as goal

abbrev pub invariant-loop-write : goal.invariant-loop-write
invariant-loop-write g l =
    IsLater l.fn.pass l.pass × (vec_len l.answers ≡ vec_len l.fn.answers + l.write-index) × (vec_capacity l.answers ≡ vec_capacity l.fn.answers)
    × DidMore l.fn.pass l.pass.seen (wrote l.thread (take l.write-index l.list)) l.write-index l.fn.answers.items l.answers.items
