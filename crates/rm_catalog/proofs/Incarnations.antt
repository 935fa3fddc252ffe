-- The incarnations of a catalog are a tree.
use Rattle.std.specs.{Prelude.{IsSomeAnd}, Option.{option_map_or}}
use Rattle.std.proofs.Common.{◌≡◌, ℕ, ◌+◌, ◌-◌, ◌<◌, ◌≤◌, List, [], ◌∷◌, length, get_or, Option, Some, None, refl, ap, sym, ◌∙◌, arith, inl, inr}
use Rattle.std.proofs.lemmas.Bool.{cases_lt}
use Rattle.rm_catalog.specs.{Facts.{BeginsOn, IncarnationRule}, Keys.{incarnation}, Rules.{HasDatabase, IsCatalog}, Trees.{nodes}}
use Rattle.rm_catalog.specs.declared.record.{IncarnationEntry.{IncarnationEntry}, Record.{Record}}
use Rattle.rm_catalog.proofs.Numbering.{entries, entry_at, number_is, number_there, incarnation-rule}
use Rattle.rm_catalog.proofs.Trees.{length_nodes, parents_below, some_node, few_nodes, in_tree_is}
use Rattle.rm_history.specs.Tree.{IsThere, IsTree, end_of, parent_of, reset_of}
use Rattle.rm_history.specs.declared.tree.Incarnation as tree

-- an incarnation that is found is there
pub found-there : (rs : List Record) (n : ℕ) (i : IncarnationEntry) → IsCatalog rs → incarnation n rs ≡ Some i → IsThere (nodes rs) n
found-there rs n i c h =
    let number = number_there rs n i c h in
    let long = length_nodes rs in
    let low = number.0 in
    let high = number.1 in
    (omega arith, omega arith)

-- one for which a fact holds is there
pub some-there : (rs : List Record) (n : ℕ) (P : IncarnationEntry → Type 0) → IsCatalog rs → IsSomeAnd (incarnation n rs) P → IsThere (nodes rs) n
some-there rs n P c some = decide (incarnation n rs) refl some
  where
    decide : (o : Option IncarnationEntry) → incarnation n rs ≡ o → IsSomeAnd o P → IsThere (nodes rs) n
    decide None e some = absurd some
    decide (Some i) e some = found-there rs n i c e

pub reset-is : (rs : List Record) (n : ℕ) (i : IncarnationEntry) → IsCatalog rs → incarnation n rs ≡ Some i → reset_of (nodes rs) n ≡ i.reset
reset-is rs n i c h = ap (λ (o : Option tree.Incarnation). option_map_or (λ (x : tree.Incarnation). x.reset) o 0) (in_tree_is rs n i c h)

pub parent-is : (rs : List Record) (n : ℕ) (i : IncarnationEntry) → IsCatalog rs → incarnation n rs ≡ Some i → parent_of (nodes rs) n ≡ i.parent
parent-is rs n i c h = ap (λ (o : Option tree.Incarnation). option_map_or (λ (x : tree.Incarnation). x.parent) o 0) (in_tree_is rs n i c h)

end-is : (rs : List Record) (n : ℕ) (i : IncarnationEntry) → IsCatalog rs → incarnation n rs ≡ Some i → end_of (nodes rs) n ≡ i.end
end-is rs n i c h = ap (λ (o : Option tree.Incarnation). option_map_or (λ (x : tree.Incarnation). x.end) o 0) (in_tree_is rs n i c h)

-- the record of an incarnation that is there
pub record HasEntry (rs : List Record) (n : ℕ) : Type 0 where
  pub entry : IncarnationEntry
  pub found : incarnation n rs ≡ Some entry
  pub number : entry.inc ≡ n
  pub rule : IncarnationRule rs entry

some-entry : (xs : List IncarnationEntry) (n : ℕ) → n < length xs → IncarnationEntry
some-entry [] n inside = absurd (omega arith)
some-entry (x ∷ xs) n inside = x

pub entry-of : (rs : List Record) (n : ℕ) → IsCatalog rs → IsThere (nodes rs) n → HasEntry rs n
entry-of rs n c there =
    let long = length_nodes rs in
    let low = there.0 in
    let high = there.1 in
    let inside : n - 1 < length (entries rs) = omega arith in
    let d = some-entry (entries rs) (n - 1) inside in
    let next : (n - 1) + 1 ≡ n = omega arith in
    let found : incarnation n rs ≡ Some (get_or (entries rs) (n - 1) d) = ap (λ (m : ℕ). incarnation m rs) (sym next) ∙ entry_at rs (n - 1) d c inside in
    record {
      entry = get_or (entries rs) (n - 1) d;
      found = found;
      number = number_is rs (n - 1) d c inside ∙ next;
      rule = incarnation-rule rs n (get_or (entries rs) (n - 1) d) c found;
    }

-- the parent of each but the first is there, did not begin later, and did not end earlier
pub record HasParent (rs : List Record) (n : ℕ) : Type 0 where
  pub some : 0 < parent_of (nodes rs) n
  pub begins : reset_of (nodes rs) (parent_of (nodes rs) n) ≤ reset_of (nodes rs) n
  pub within : reset_of (nodes rs) n ≤ end_of (nodes rs) (parent_of (nodes rs) n)

pub parent-there : (rs : List Record) (n : ℕ) → IsCatalog rs → IsThere (nodes rs) n → 1 < n → HasParent rs n
parent-there rs n c there more =
    let e = entry-of rs n c there in
    let number = e.number in
    decide e (incarnation e.entry.parent rs) refl (e.rule.origin.branch (omega arith)).parent
  where
    decide : (e : HasEntry rs n) (o : Option IncarnationEntry) → incarnation e.entry.parent rs ≡ o → IsSomeAnd o (BeginsOn e.entry) → HasParent rs n
    decide e None none begins = absurd begins
    decide e (Some p) some begins =
        let parent = parent-is rs n e.entry c e.found in
        let low = (number_there rs e.entry.parent p c some).0 in
        let from = ap (λ (m : ℕ). reset_of (nodes rs) m) parent ∙ reset-is rs e.entry.parent p c some in
        let to = reset-is rs n e.entry c e.found in
        let until = ap (λ (m : ℕ). end_of (nodes rs) m) parent ∙ end-is rs e.entry.parent p c some in
        let less = begins.reset in
        let inside = begins.end in
        record { some = omega arith; begins = omega arith; within = omega arith }

first-parent : (rs : List Record) (n : ℕ) → IsCatalog rs → IsThere (nodes rs) n → n ≡ 1 → reset_of (nodes rs) (parent_of (nodes rs) n) ≤ reset_of (nodes rs) n
first-parent rs n c there one =
    let e = entry-of rs n c there in
    let none : parent_of (nodes rs) n ≡ 0 = parent-is rs n e.entry c e.found ∙ e.rule.origin.first (e.number ∙ one) in
    let low = ap (λ (m : ℕ). reset_of (nodes rs) m) none in
    omega arith

ascends : (rs : List Record) (n : ℕ) → IsCatalog rs → IsThere (nodes rs) n → reset_of (nodes rs) (parent_of (nodes rs) n) ≤ reset_of (nodes rs) n
ascends rs n c there = elim (cases_lt 1 n) [
  | inl more ↦ (parent-there rs n c there more).begins
  | inr le ↦ let low = there.0 in first-parent rs n c there (omega arith)
]

-- and began at or below the end of its parent
pub branch_within : (rs : List Record) (n : ℕ) → IsCatalog rs → IsThere (nodes rs) n → 1 < n → reset_of (nodes rs) n ≤ end_of (nodes rs) (parent_of (nodes rs) n)
branch_within rs n c there more = (parent-there rs n c there more).within

pub is-tree : (rs : List Record) → IsCatalog rs → HasDatabase rs → IsTree (nodes rs)
is-tree rs c database = record {
  some = some_node rs c database;
  few = few_nodes rs c;
  parents = parents_below rs c;
  rooted = λ i more within. (parent-there rs i c (omega arith, within) more).some;
  ascends = λ i there. ascends rs i c there;
}
