use Rattle.std.{specs.Prelude.{IsPermutation}, proofs.Common.{◌<◌, AllPairs, rules, sym, subst}}
use Rattle.std.proofs.lemmas.List.Sorted.{IsNonDecreasingBy-from_sort_by_key}
use Rattle.rm_base.proofs.Sorting.{id-of, sorted-ascends}
use Rattle.rm_evidence.proofs.order.by_id.Goals as goal

pub returns-clause-ascends : goal.returns-clause-ascends
returns-clause-ascends g c = λ apart.
    let moved : IsPermutation c.args.list c.sort_unstable_by_key.new.self.items = subst (λ xs. IsPermutation xs c.sort_unstable_by_key.new.self.items) c.into_vec-list.ensures c.sort_unstable_by_key.ensures.permutation in
    let order = IsNonDecreasingBy-from_sort_by_key id-of _ c.sort_unstable_by_key.ensures.sorted (λ a r q k. search rules) in
    subst (λ xs. AllPairs (λ x y. x.0 < y.0) xs) (sym c.from_vec.ensures) (sorted-ascends c.args.list c.sort_unstable_by_key.new.self.items apart moved order)
