-- A tree that grows keeps what it says of the incarnations that were there.
use Rattle.std.proofs.Common.{◌≡◌, ◌∙◌, ℕ, zero, suc, ◌<◌, ◌≤◌, inl, inr, List, length, ap, sym, subst, arith}
use Rattle.std.proofs.lemmas.Bool.{cases_eq, cases_lt}
use Rattle.rm_history.specs.Tree.{HasParentsBelow, IsThere, owner, parent_of, reset_of, end_of, with_end, with_branch}
use Rattle.rm_history.specs.declared.tree.Incarnation.{Incarnation}
use Rattle.rm_history.proofs.Branches.{IsThere-with_branch, owner-with_branch, reset_of-with_branch, end_of-with_branch}
use Rattle.rm_history.proofs.Ends.{IsThere-with_end, owner-with_end, reset_of-with_end, end_of-with_end, end_of-with_end_other}
use Rattle.rm_history.proofs.Owners.{owner-cases, owner-first, parent-none}
use Rattle.rm_catalog_typed.specs.LedgerFacts.{AreIncarnations}

-- each incarnation that was there is there, with its resetlogs SCN, its owners, and an end that did not fall
pub record Keeps (old new : List Incarnation) : Type 0 where
  pub there : (i : ℕ) → IsThere old i → IsThere new i
  pub reset : (i : ℕ) → IsThere old i → reset_of new i ≡ reset_of old i
  pub end : (i : ℕ) → IsThere old i → end_of old i ≤ end_of new i
  pub owners : (i g : ℕ) → IsThere old i → owner new i g ≡ owner old i g

pub keeps_end : (tree : List Incarnation) (j end : ℕ) → IsThere tree j → end_of tree j ≤ end → Keeps tree (with_end tree j end)
keeps_end tree j end there up = record {
  there = λ i is. IsThere-with_end tree j end i is;
  reset = λ i is. reset_of-with_end tree j end i there;
  end = λ i is. elim (cases_eq i j) [
    | inl same ↦ subst (λ k. end_of tree k ≤ end_of (with_end tree j end) k) (sym same) (omega (arith, up, end_of-with_end tree j end there))
    | inr other ↦ omega (arith, end_of-with_end_other tree j end i there is other)
  ];
  owners = λ i g is. owner-with_end tree j end i g there;
}

pub keeps_branch : (tree : List Incarnation) (p at : ℕ) → HasParentsBelow tree → IsThere tree p → Keeps tree (with_branch tree p at)
keeps_branch tree p at below there = record {
  there = λ i is. IsThere-with_branch tree p at i is;
  reset = λ i is. reset_of-with_branch tree p at i is;
  end = λ i is. omega (arith, end_of-with_branch tree p at i is);
  owners = λ i g is. owner-with_branch tree p at i g below there is;
}

-- parents lie below
pub parents_below : (tree : List Incarnation) → AreIncarnations tree → HasParentsBelow tree
parents_below tree are i some = elim (cases_lt (length tree) i) [
  | inl past ↦ let none = parent-none tree i past in omega arith
  | inr inside ↦ elim (cases_lt 1 i) [
    | inl later ↦ (are.branches i later inside).parent.1
    | inr first ↦ let is : i ≡ 1 = omega arith in subst (λ (k : ℕ). parent_of tree k < k) (sym is) (let none = are.first in omega arith)
  ]
]

-- incarnations begin where the first one does, or above
pub first-begins : (tree : List Incarnation) → AreIncarnations tree → (most i : ℕ) → i ≤ most → IsThere tree i → reset_of tree 1 ≤ reset_of tree i
first-begins tree are zero i few there = let some = there.0 in absurd (omega (arith, some, few))
first-begins tree are (suc most) i few there = elim (cases_lt 1 i) [
  | inl later ↦
      let branch = are.branches i later there.1 in
      let low = first-begins tree are most (parent_of tree i) (omega (arith, branch.parent.1, few)) (branch.parent.0, omega (arith, branch.parent.1, there.1)) in
      omega (arith, low, branch.reset)
  | inr first ↦
      let one : 1 ≡ i = omega (arith, first, there.0) in
      subst (λ k. reset_of tree 1 ≤ reset_of tree k) one (omega arith)
]

-- No path but its own owns the end of an incarnation: what branched off it began at or below there.
own-by : (tree : List Incarnation) (j : ℕ) → AreIncarnations tree → (most i : ℕ) → i ≤ most → IsThere tree i → owner tree i (end_of tree j) ≡ j → i ≡ j
own-by tree j are zero i few there own = (let some = there.0 in absurd (omega (arith, some, few)))
own-by tree j are (suc most) i few there own =
    let end = end_of tree j in
    elim (owner-cases tree (parents_below tree are) i end there.0) [
      | inl here ↦ sym here.1 ∙ own
      | inr above ↦ elim (cases_lt 1 i) [
        | inl second ↦
            let less : parent_of tree i < i = parents_below tree are i there.0 in
            let inside = there.1 in
            let parent : parent_of tree i ≡ j =
            own-by tree j are most (parent_of tree i) (omega (arith, less, few)) ((are.branches i second inside).parent.0, omega (arith, less, inside)) (sym above.1 ∙ own) in
            let low : reset_of tree i ≤ end = subst (λ n. reset_of tree i ≤ end_of tree n) parent ((are.branches i second inside).end) in
            let high = above.0 in
            absurd (omega (arith, low, high))
        | inr first ↦
            let some = there.0 in
            let one : i ≡ 1 = omega (arith, first, some) in
            one ∙ sym (owner-first tree end) ∙ ap (λ n. owner tree n end) (sym one) ∙ own
      ]
    ]

pub own-at_end : (tree : List Incarnation) (i j : ℕ) → AreIncarnations tree → IsThere tree i → owner tree i (end_of tree j) ≡ j → i ≡ j
own-at_end tree i j are there own = own-by tree j are i i (omega arith) there own
