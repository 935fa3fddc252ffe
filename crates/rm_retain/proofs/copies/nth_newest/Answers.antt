use Rattle.std.{specs.Prelude.{IfNone, IfSome}, proofs.Common.{◌≡◌, ◌-◌, ◌<◌, ◌≤◌, ◌⊎◌, ℕ, List, Option, Some, length, slice_get, subst}}
use Rattle.std.proofs.lemmas.List.Sorted.{length_permutation}
use Rattle.rm_retain.{specs.declared.copies.Backup.{Backup}, proofs.{ByAge.{nth_of}, Ranks.{rising_from}}}
use Rattle.rm_retain.proofs.copies.nth_newest.Goals as goal

few_of : (n a b : ℕ) (o : Option Backup) → a ≡ b → IfNone o ((n ≡ 0) ⊎ (a < n)) → IfNone o ((n ≡ 0) ⊎ (b < n))
few_of n a b o same few = subst (λ k. IfNone o ((n ≡ 0) ⊎ (k < n))) same few

pub returns-clause-exact : goal.returns-clause-exact
returns-clause-exact c =
    let xs = c.args.copies.now in
    let ys = c.in_ok-sorted.sorted.items in
    let n = c.args.wanted in
    let o = c.nth_last.result in
    nth_of xs (rising_from xs c.requires.ascend) ys c.in_ok-sorted.ensures.same c.in_ok-sorted.ensures.order c.in_ok-sorted.ensures.none_new n o
    (subst (λ (zs : List Backup). IfNone o ((n ≡ 0) ⊎ (length zs < n))) c.deref.ensures.value c.nth_last.ensures.none)
    (subst (λ (zs : List Backup). IfSome o (λ x. (0 < n) × (n ≤ length zs) × (slice_get zs (length zs - n) ≡ Some x))) c.deref.ensures.value c.nth_last.ensures.some)

pub returns-clause-few : goal.returns-clause-few
returns-clause-few c =
    let xs = c.args.copies.now in
    let ys = c.in_ok-sorted.sorted.items in
    let n = c.args.wanted in
    few_of n (length ys) (length xs) c.nth_last.result (length_permutation xs ys c.in_ok-sorted.ensures.same)
    (subst (λ (zs : List Backup). IfNone c.nth_last.result ((n ≡ 0) ⊎ (length zs < n))) c.deref.ensures.value c.nth_last.ensures.none)
