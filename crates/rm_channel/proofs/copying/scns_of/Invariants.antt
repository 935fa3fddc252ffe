use Rattle.std.proofs.Common.{◌≡◌, ◌≤◌, Ok, length, map, take, vec_len, vec_capacity}
use Rattle.rm_channel.specs.Jobs.{lists}
use Rattle.rm_channel.proofs.copying.scns_of.Given as goal

abbrev pub invariant-loop-list : goal.invariant-loop-list
invariant-loop-list l =
    (vec_len l.all ≡ l.list-index) × (length l.answers ≤ vec_capacity l.all) × (lists (take l.list-index l.answers) ≡ map (map Ok) (lists l.all.items))
