use Rattle.std.proofs.lemmas.List.Sorted.{IsNonDecreasingBy-from_sort}
use Rattle.rm_retain.proofs.Ids.{sorted_ascends}
use Rattle.rm_retain.proofs.deciding.in_order.Goals as goal

pub returns-clause-ascends : goal.returns-clause-ascends
returns-clause-ascends c = λ apart.
    sorted_ascends c.args.ids.items c.sort_unstable.new.self.items apart c.sort_unstable.ensures.permutation (IsNonDecreasingBy-from_sort (λ x. x) c.sort_unstable.new.self.items c.sort_unstable.ensures.sorted)
