use Rattle.std.{specs.List.{filter}, proofs.Common.{◌≡◌, take, map}}
use Rattle.rm_retain.specs.Chosen.{is_among}
use Rattle.rm_retain.proofs.copies.newest_ids.Given as goal

abbrev pub invariant-loop-x : goal.invariant-loop-x
invariant-loop-x l = l.ids.items ≡ map (λ x. x.id) (filter (is_among l.last) (take l.x-index l.copies))
