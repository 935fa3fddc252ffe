use Rattle.std.proofs.Common.{◌≡◌, ◌≤◌, Ok, length, map, take, vec_len, vec_capacity}
use Rattle.rm_channel.proofs.copying.scns_of_list.Given as goal

abbrev pub invariant-loop-answer : goal.invariant-loop-answer
invariant-loop-answer l =
    (vec_len l.scns ≡ l.answer-index) × (length l.answers ≤ vec_capacity l.scns) × (take l.answer-index l.answers ≡ map Ok l.scns.items)
