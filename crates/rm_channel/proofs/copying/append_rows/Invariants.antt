use Rattle.std.proofs.Common.{◌≡◌, length, take, vec_len}
use Rattle.rm_channel.specs.{Jobs.{lists}, Runs.{side_by_side}}
use Rattle.rm_channel.proofs.copying.append_rows.Given as goal

abbrev pub invariant-loop-k : goal.invariant-loop-k
invariant-loop-k l =
    (vec_len l.rows ≡ length l.more) × (lists l.rows.items ≡ side_by_side (lists l.initial.rows.items) (take l.k (lists l.more)))
