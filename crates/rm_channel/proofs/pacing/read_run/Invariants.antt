use Rattle.std.proofs.Common.{◌≡◌, ◌+◌, take, vec_len, vec_capacity}
use Rattle.rm_live.specs.Passes.{IsLater}
use Rattle.rm_channel.specs.{Jobs.{found}, Made.{DidMore}}
use Rattle.rm_channel.proofs.pacing.read_run.Given as goal

abbrev pub invariant-loop-block : goal.invariant-loop-block
invariant-loop-block g l =
    IsLater l.fn.pass l.pass × (vec_len l.rows ≡ vec_len l.fn.rows + l.block-index) × (vec_capacity l.rows ≡ vec_capacity l.fn.rows)
    × DidMore l.fn.pass l.pass.seen (found l.file (take l.block-index l.blocks)) l.block-index l.fn.rows.items l.rows.items
