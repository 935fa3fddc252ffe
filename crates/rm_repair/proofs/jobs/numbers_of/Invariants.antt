use Rattle.std.proofs.Common.{◌≡◌, ◌≤◌, length, map, take, vec_len, vec_capacity}
use Rattle.rm_repair.proofs.jobs.numbers_of.Given as goal

abbrev pub invariant-loop-block : goal.invariant-loop-block
invariant-loop-block l =
    (vec_len l.numbers ≡ l.block-index) × (length l.blocks ≤ vec_capacity l.numbers) × (l.numbers.items ≡ map (λ x. x.block) (take l.block-index l.blocks))
