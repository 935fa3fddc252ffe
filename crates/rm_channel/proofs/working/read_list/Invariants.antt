use Rattle.std.proofs.Common.{◌≡◌, ◌≤◌, ◌+◌, ◌++◌, ℕ, All, IsSome, List, length, vec_len, vec_capacity}
use Rattle.rm_live.specs.{Parts.{row_at}, Passes.{IsLater}}
use Rattle.rm_channel.specs.{Jobs.{found}, Made.{Did}}
use Rattle.rm_channel.proofs.working.read_list.Given as goal

abbrev pub invariant-runs : goal.invariant-runs
invariant-runs g l =
    IsLater l.fn.pass l.pass × (vec_len l.rows + length l.left ≡ length l.blocks) × (length l.blocks ≤ vec_capacity l.rows)
    × ((done : List ℕ) × (done ++ l.left ≡ l.blocks) × Did l.fn.pass l.pass.seen (found l.file done l.rows.items))
    × All (λ b. IsSome (row_at l.fn.pass.opening.files l.file b)) l.left

abbrev pub decreases-runs : goal.decreases-runs
decreases-runs g l = length l.left
