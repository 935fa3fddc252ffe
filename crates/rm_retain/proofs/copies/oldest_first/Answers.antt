use Rattle.std.{specs.{List.Sorted.{IsStableByKey}, Ordering.{nat_cmp}}, proofs.Common.{◌≡◌, rules, ℕ, List, Bor, subst}}
use Rattle.std.proofs.lemmas.{Fn.{always_returns_same}, List.Sorted.{IsNonDecreasingBy-from_sort_by_key}}
use Rattle.rm_retain.{specs.declared.copies.Backup.{Backup}, proofs.{ByAge.{by_age}, Ranks.{rising_from}}}
use Rattle.rm_retain.proofs.copies.oldest_first.Goals as goal

pub returns-clause-order : goal.returns-clause-order
returns-clause-order c =
    let ys = c.sort_by_key.new.self.items in
    let stable : IsStableByKey (λ (x : Backup). x.checkpoint) nat_cmp c.args.copies.now ys =
    subst (λ (xs : List Backup). IsStableByKey (λ (x : Backup). x.checkpoint) nat_cmp xs ys) c.in_ok-sorted.ensures
    (c.in_ok-sort_by_key.ensures.stable (λ x. x.checkpoint) (always_returns_same _ (λ (a : Bor Backup × Unit {0}) (r : ℕ). r ≡ a.0.now.checkpoint) _ (λ a r q k. search rules))) in
    by_age c.args.copies.now ys (rising_from c.args.copies.now c.requires.ascend)
    (IsNonDecreasingBy-from_sort_by_key (λ (x : Backup). x.checkpoint) ys c.in_ok-sort_by_key.ensures.sorted (λ a r q k. search rules)) stable
