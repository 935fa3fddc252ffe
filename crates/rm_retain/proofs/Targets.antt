-- A target of the window is one of the incarnation that owns it.
use Rattle.std.proofs.{Common.{◌≡◌, ◌<◌, ◌≤◌, ◌∙◌, inl, inr, ℕ, zero, suc, List, ap, sym, subst, arith, Contains}, lemmas.Bool.{cases_lt}}
use Rattle.rm_base.proofs.Members.{in-front, behind}
use Rattle.rm_history.specs.{Tree.{IsTree, IsThere, owner, parent_of, reset_of, end_of, path}, declared.tree.Incarnation.{Incarnation}}
use Rattle.rm_history.proofs.Owners.{path-step, owner-first, owner-cases, owner-there, owner-owner, owner-begun}
use Rattle.rm_retain.specs.Window.{IsTargetOf}

-- each incarnation but the first began at or below the end of its parent
abbrev pub BranchWithin : List Incarnation → Type 0
BranchWithin tree = (i : ℕ) → 1 < i → IsThere tree i → reset_of tree i ≤ end_of tree (parent_of tree i)

-- what is true of the owner of s on the path of i, where i does not end below s
record IsOwner (tree : List Incarnation) (i s k : ℕ) : Type 0 where
  pub on_path : Contains (path tree i) k
  pub ended : s ≤ end_of tree k

module _ (tree : List Incarnation) (is : IsTree tree) (within : BranchWithin tree) where
  itself : (i s k : ℕ) → IsThere tree i → s ≤ end_of tree i → k ≡ i → IsOwner tree i s k
  itself i s k there low same =
      subst (IsOwner tree i s) (sym same) (record { on_path = subst (λ xs. Contains xs i) (sym (path-step tree is.parents i there.0)) (in-front i (path tree (parent_of tree i))); ended = low })

  owns : (most i s : ℕ) → i ≤ most → IsThere tree i → s ≤ end_of tree i → IsOwner tree i s (owner tree i s)
  owns zero i s few there low = let some = there.0 in absurd (omega (arith, some, few))
  owns (suc most) i s few there low = elim (owner-cases tree is.parents i s there.0) [
    | inl here ↦ itself i s (owner tree i s) there low here.1
    | inr above ↦ elim (cases_lt 1 i) [
      | inr first ↦
          let some = there.0 in
          let one : i ≡ 1 = omega (arith, first, some) in
          itself i s (owner tree i s) there low (ap (λ k. owner tree k s) one ∙ owner-first tree s ∙ sym one)
      | inl more ↦
          let less = is.parents i there.0 in
          let inside = there.1 in
          let begun = within i more there in
          let early = above.0 in
          let up = owns most (parent_of tree i) s (omega (arith, less, few)) (is.rooted i more inside, omega (arith, less, inside)) (omega (arith, begun, early)) in
          subst (IsOwner tree i s) (sym above.1) (record {
            on_path = subst (λ xs. Contains xs (owner tree (parent_of tree i) s)) (sym (path-step tree is.parents i there.0)) (behind i (path tree (parent_of tree i)) (owner tree (parent_of tree i) s) up.on_path);
            ended = up.ended;
          })
    ]
  ]

  begins : (current start s : ℕ) → reset_of tree 1 ≤ start → start ≤ s → reset_of tree (owner tree current s) ≤ s
  begins current start s low first = elim (owner-begun tree is.parents current s) [
    | inl begun ↦ begun
    | inr ones ↦ subst (λ k. reset_of tree k ≤ s) (sym (ones s (omega arith))) (omega (arith, low, first))
  ]

  pub target_of : (current start i s : ℕ) → IsThere tree current → reset_of tree 1 ≤ start → start ≤ s → s ≤ end_of tree current → owner tree current s ≡ i → IsTargetOf tree current i s
  target_of current start i s there low first last owned =
      let own = owns current current s (omega arith) there last in
      let begun : reset_of tree i ≤ s = subst (λ k. reset_of tree k ≤ s) owned (begins current start s low first) in
      record {
        there = subst (IsThere tree) owned (owner-there tree is.parents current s there);
        begun = begun;
        ended = subst (λ k. s ≤ end_of tree k) owned own.ended;
        alike = λ g under. ap (λ k. owner tree k g) (sym owned) ∙ owner-owner tree is.parents current s g under;
        ancestor = λ below. (
          λ same. let late : reset_of tree current ≤ s = subst (λ k. reset_of tree k ≤ s) same begun in omega (arith, late, below),
          subst (Contains (path tree current)) owned own.on_path,
        );
      }
